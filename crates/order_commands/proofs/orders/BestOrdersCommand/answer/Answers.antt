-- The best orders are found, or the command ends there.
use Rattle.cell_walks.specs.DiskTold.{disk_seen}
use Rattle.cell_walks.specs.Observed.{files_seen}
use Rattle.cell_texts.specs.Tests.{known}
use Rattle.cell_driver.proofs.Driven.{untouched_by}
use Rattle.order_commands.proofs.Advising.{advice_made}
use Rattle.order_commands.proofs.orders.BestOrdersCommand.answer.Goals as goal

pub returns-clause-allowed : goal.returns-clause-allowed
returns-clause-allowed g c =
    advice_made (files_seen g.F.Files c.args._files.now c.args._files.now) (disk_seen g.D.Disk c.args.disk c.args.disk)
    c.args.self.now.weighing (known c.args.held) (untouched_by g.D.Disk c.args.disk (g.met.D.Disk.only_now c.args.disk))
    c.advise_on.result c.advise_on.ensures.best c.advise_on.ensures.ended
