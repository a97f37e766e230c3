-- The resources of the stages so far.
use Rattle.std.proofs.Common.{◌≡◌, map}
use Rattle.std.specs.List.{range_with_len}
use Rattle.part_table.specs.Lanes.{lane_at}
use Rattle.part_table.proofs.lanes.resources_of.Given as goal

abbrev pub invariant-loop-at : goal.invariant-loop-at
invariant-loop-at l = l.resources ≡ map (lane_at l.table) (range_with_len 0 l.at)
