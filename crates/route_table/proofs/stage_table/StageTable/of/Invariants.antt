-- The lists have the first numbers and the entries of the types so far.
use Rattle.std.proofs.Common.{◌≡◌, map}
use Rattle.std.specs.List.{range_with_len, flat_map}
use Rattle.cell_base.specs.Stages.{stages_of}
use Rattle.route_table.specs.Entries.{stage_entry, first_numbers}
use Rattle.route_table.proofs.stage_table.StageTable.of.Given as goal

abbrev pub invariant-loop-kind : goal.invariant-loop-kind
invariant-loop-kind l =
    (l.firsts ≡ first_numbers l.cell l.kind)
    × (l.entries ≡ map (stage_entry l.cell) (flat_map (stages_of l.cell) (range_with_len 0 l.kind)))
