-- The session has asked so often, with each ask fewer are left, and it tells whether it has ended.
use Rattle.std.proofs.Common.{◌+◌, ◌≤◌}
use Rattle.cell_sessions.specs.Progressing.{TellsEnd, place_of}
use Rattle.cell_sessions.specs.Sessions.{HasAsked}
use Rattle.solo_rounds.specs.Underway.{IsWithinScript, script_asks_left}
use Rattle.cell_sessions.proofs.session.run_session.Given as goal

abbrev pub invariant-asks : goal.invariant-asks
invariant-asks g l = record {
  run : HasAsked l.script l.patience (place_of l.initial.at) (place_of l.at) l.fn.pass l.pass;
  within : IsWithinScript l.script l.patience (place_of l.at);
  tells : TellsEnd l.script l.patience l.at;
  counted : l.at.asked + script_asks_left l.patience l.script (place_of l.at)
      ≤ script_asks_left l.patience l.script (place_of l.initial.at);
}

abbrev pub decreases-asks : goal.decreases-asks
decreases-asks g l = script_asks_left l.patience l.script (place_of l.at)
