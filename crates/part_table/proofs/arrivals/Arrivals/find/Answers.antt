-- The part at the place of its job.
use Rattle.part_table.proofs.Jobs.{part_at, part_absent}
use Rattle.part_table.proofs.arrivals.Arrivals.find.Goals as goal

pub returns-in-Some-clause-part : goal.returns-in-Some-clause-part
returns-in-Some-clause-part c =
    rw (← c.self.view_is) (part_at c.self.inside.log.entries c.args.job c.in-Some.at c.get.result c.in-Some.ensures c.get.ensures)

pub returns-in-None-clause-part : goal.returns-in-None-clause-part
returns-in-None-clause-part c = rw (← c.self.view_is) (part_absent c.self.inside.log.entries c.args.job c.in-None.ensures)
