-- Each request so far was granted.
use Rattle.std.proofs.Common.{◌≡◌, ◌+◌, drop}
use Rattle.carry_commands.specs.Starts.{granted_from, granted_start}
use Rattle.carry_commands.proofs.starts.first_refused.Given as goal

abbrev pub invariant-loop-request : goal.invariant-loop-request
invariant-loop-request l = record {
  cell : l.core.cell ≡ l.initial.core.cell;
  line : l.line ≡ l.request-index + 1;
  so_far : granted_start l.initial.core.cell l.requests ≡ granted_from l.core.cell l.core.parts l.line (drop l.request-index l.requests);
}
