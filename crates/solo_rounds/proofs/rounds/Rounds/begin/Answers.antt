-- Rounds begin with no entry, and all asks are left.
use Rattle.std.proofs.Common.{arith}
use Rattle.solo_rounds.proofs.Counting.{can_go_on_at_start}
use Rattle.solo_rounds.proofs.Ends.{begin}
use Rattle.solo_rounds.proofs.rounds.Rounds.begin.Goals as goal

pub returns-clause-ready : goal.returns-clause-ready
returns-clause-ready c cell shift fits = record {
  ready = (can_go_on_at_start cell shift c.begin_at.result c.begin_at.ensures fits).0;
  next = omega arith;
}

pub returns-clause-room : goal.returns-clause-room
returns-clause-room c cell shift fits = (can_go_on_at_start cell shift c.begin_at.result c.begin_at.ensures fits).1

pub returns-clause-begun : goal.returns-clause-begun
returns-clause-begun c core shift = record {
  turn = 0;
  underway = begin shift core.cell core.parts c.begin_at.result c.begin_at.ensures;
}
