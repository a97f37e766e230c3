-- The journal is read, or the command ends there.
use Rattle.cell_walks.specs.DiskTold.{disk_seen}
use Rattle.cell_walks.specs.Observed.{files_seen}
use Rattle.cell_texts.specs.Tests.{known}
use Rattle.cell_commands.proofs.Planning.{plan_made}
use Rattle.cell_commands.proofs.plan.PlanCommand.answer.Goals as goal

pub returns-clause-allowed : goal.returns-clause-allowed
returns-clause-allowed g c =
    plan_made (files_seen g.F.Files c.args._files.now c.args._files.now) (disk_seen g.D.Disk c.args.disk c.read_journal.result.disk)
    (known c.args.held) c.requires.fits c.read_journal.ensures.only_read c.read_journal.result.made c.read_journal.ensures.read
    c.read_journal.ensures.ended
