-- One resource more.
use Rattle.std.proofs.Common.{◌++◌, ◌∷◌, [], List, ℕ, map, ap, sym, ◌∙◌, arith}
use Rattle.std.specs.List.{range_with_len}
use Rattle.std.proofs.lemmas.List.FromFn.{map-range_with_len_more}
use Rattle.part_table.specs.Lanes.{lane_at}
use Rattle.part_table.proofs.lanes.resources_of.Goals as goal

pub loop-at-preserved : goal.loop-at-preserved
loop-at-preserved c =
    let lane = lane_at c.args.table.now in
    c.in_ok-try_push.ensures.ok
    ∙ ap (λ (xs : List ℕ). xs ++ c.resource_of.result.0 ∷ []) c.loop-at.invariant
    ∙ ap (λ r. map lane (range_with_len 0 c.loop-at.at) ++ r ∷ []) c.resource_of.ensures.value
    ∙ sym (map-range_with_len_more lane 0 c.loop-at.at c.loop-at.at (omega arith))
