-- The images keep what they had.
use Rattle.live_cell.proofs.Acknowledging.{has_now, has_still}
use Rattle.live_cell.proofs.laws.acknowledged_law.Goals as goal

pub returns-clause-from_now_on : goal.returns-clause-from_now_on
returns-clause-from_now_on g c disk text grants =
    has_now g.D.Disk.reads_as g.D.Disk.may_leave g.D.Disk.moment g.D.Disk.left_since disk text grants (g.met.D.Disk.only_now disk)

pub returns-clause-still : goal.returns-clause-still
returns-clause-still g c old new then text grants later more =
    has_still g.D.Disk.reads_as g.D.Disk.may_leave g.D.Disk.moment g.D.Disk.left_since old new then text grants later more
