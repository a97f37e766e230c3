-- What follows of the answer.
use Rattle.standby_link.proofs.Taking.{crashes, delivers, stable}
use Rattle.standby_link.proofs.follower.Follower.take.Goals as goal

pub returns-clause-delivery : goal.returns-clause-delivery
returns-clause-delivery g c = delivers c.args.self.now c.answer.new.self c.args.bytes.now c.answer.result c.answer.ensures.answer

pub returns-clause-crashes : goal.returns-clause-crashes
returns-clause-crashes g c =
    crashes g.D.Disk.reads_as g.D.Disk.may_leave g.D.Disk.moment g.D.Disk.left_since c.args.self.now c.answer.new.self c.args.bytes.now
    c.answer.ensures.sure c.answer.ensures.disk c.answer.result c.answer.ensures.answer

pub returns-clause-stable : goal.returns-clause-stable
returns-clause-stable g c =
    stable g.D.Disk.reads_as g.D.Disk.may_leave g.D.Disk.moment g.D.Disk.left_since c.args.self.now c.answer.new.self c.args.bytes.now
    c.answer.ensures.sure c.answer.ensures.disk c.answer.result c.answer.ensures.answer
