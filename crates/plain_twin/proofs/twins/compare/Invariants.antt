-- Both stay on the cell.
use Rattle.std.proofs.Common.{◌≡◌}
use Rattle.plain_twin.proofs.twins.compare.Given as goal

abbrev pub invariant-loop : goal.invariant-loop
invariant-loop l = record {
  core : l.core.cell ≡ l.cell;
  recount : l.recount.cell ≡ l.cell;
}
