-- The bits that are left are of neighborhoods that the part enters, and all others hold few enough.
use Rattle.std.proofs.Common.{◌≡◌, ◌≤◌, ◌<◌, ℕ, ◌++◌, ◌∷◌, [], true, false, length}
use Rattle.cell_base.specs.Stages.{capacity_of}
use Rattle.cell_base.specs.Masks.{has_bit}
use Rattle.cell_base.specs.Neighborhoods.{count}
use Rattle.cell_base.specs.Outcomes.{without}
use Rattle.plain_recount.specs.Entering.{enters}
use Rattle.plain_recount.proofs.counts.first_over.Given as goal

abbrev pub invariant-loop-entered : goal.invariant-loop-entered
invariant-loop-entered l = record {
  entered : (k : ℕ) → has_bit l.entered k ≡ true → enters l.table l.fn.present l.fn.part k ≡ true;
  within : (k : ℕ) → has_bit l.entered k ≡ true → k < length l.table.resources;
  others : (k : ℕ) → k < length l.table.resources → has_bit l.entered k ≡ false
      → count l.table (without l.parts l.fn.part.job ++ l.fn.part ∷ []) k ≤ capacity_of l.table k;
}

abbrev pub decreases-loop-entered : goal.decreases-loop-entered
decreases-loop-entered l = l.entered
