-- The entries have those of the places so far.
use Rattle.std.proofs.Common.{◌≡◌, ◌++◌, map}
use Rattle.std.specs.List.{range_with_len}
use Rattle.cell_base.specs.Stages.{stage}
use Rattle.route_table.specs.Entries.{stage_entry}
use Rattle.route_table.proofs.entries.push_route.Given as goal

abbrev pub invariant-loop-place : goal.invariant-loop-place
invariant-loop-place l = l.entries ≡ l.fn.entries ++ map (stage_entry l.cell) (map (stage l.fn.kind.0) (range_with_len 0 l.place))
