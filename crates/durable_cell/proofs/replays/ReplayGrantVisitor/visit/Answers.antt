-- The replay goes on, and so does who else takes the grants.
use Rattle.durable_cell.proofs.Replaying.{both_ok}
use Rattle.durable_cell.proofs.replays.ReplayGrantVisitor.visit.Goals as goal

pub returns : goal.returns
returns g c start first grants gate_is visited =
    both_ok _ c.visit.result (c.replay_one-self.ensures start.core first grants gate_is visited.0)
    (c.visit.ensures start.kept first grants gate_is visited.1)
