-- The rounds are under way, and there is room for all asks that are left.
use Rattle.std.proofs.Common.{◌≡◌, ◌≤◌}
use Rattle.solo_rounds.specs.Asking.{AreAsking, AreReady, asks_left_in}
use Rattle.solo_rounds.proofs.runs.solo.Given as goal

abbrev pub invariant-loop-entry : goal.invariant-loop-entry
invariant-loop-entry l = record {
  cell : l.core.cell ≡ l.fn.core.cell;
  ready : AreReady l.shift l.rounds;
  room : asks_left_in l.shift l.rounds ≤ l.history.spare;
  asking : AreAsking l.shift l.core l.fn.core.parts l.history.items l.rounds;
}

abbrev pub decreases-loop-entry : goal.decreases-loop-entry
decreases-loop-entry l = asks_left_in l.shift l.rounds
