-- What the durable cell keeps is so still.
use Rattle.standby_link.proofs.Taking.{stays}
use Rattle.standby_link.proofs.follower.stays.Goals as goal

pub returns : goal.returns
returns g c =
    stays g.D.Disk.reads_as g.D.Disk.may_leave g.D.Disk.moment g.D.Disk.left_since g.D.Disk.faults c.args.durable.now
    g.met.D.Disk.only_now c.durable_law.ensures.keeps_disk c.durable_law.ensures.acknowledged
