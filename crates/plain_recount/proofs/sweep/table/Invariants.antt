-- The table has the types so far.
use Rattle.std.proofs.Common.{◌≡◌, map}
use Rattle.std.specs.List.{range_with_len}
use Rattle.plain_recount.specs.Leading.{leading_row}
use Rattle.plain_recount.proofs.sweep.table.Given as goal

abbrev pub invariant-loop-kind : goal.invariant-loop-kind
invariant-loop-kind l = l.table ≡ map (leading_row l.cell) (range_with_len 0 l.kind)
