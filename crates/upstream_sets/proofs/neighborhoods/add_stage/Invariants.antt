-- With the stage put at the end of the lists of the resources that are left, the lists are those that are wanted.
use Rattle.std.proofs.Common.{◌≡◌, ℕ, [], ◌∷◌, ◌++◌, cond, length, get_or}
use Rattle.cell_base.specs.Masks.{has_bit}
use Rattle.upstream_sets.proofs.neighborhoods.add_stage.Given as goal

abbrev pub invariant-loop-left : goal.invariant-loop-left
invariant-loop-left l = record {
  complete : length l.lists.items ≡ length l.initial.lists.items;
  each : (r : ℕ) → get_or l.lists.items r [] ++ cond (has_bit l.left r) (l.stage ∷ []) []
      ≡ get_or l.initial.lists.items r [] ++ cond (has_bit l.mask r) (l.stage ∷ []) [];
}

abbrev pub decreases-loop-left : goal.decreases-loop-left
decreases-loop-left l = l.left
