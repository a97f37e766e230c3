-- The grants so far led the sessions to where they stand.
use Rattle.std.proofs.Common.{◌≡◌, take}
use Rattle.cell_sessions.specs.Starting.{HasLed}
use Rattle.cell_sessions.proofs.beginning.begin.Given as goal

abbrev pub invariant-loop-grant : goal.invariant-loop-grant
invariant-loop-grant l = record {
  shift : l.starts.shift ≡ l.shift;
  led : HasLed (take l.grant-index l.opening) l.starts;
}
