-- The record is judged, or the command ends at it.
use Rattle.cell_walks.specs.DiskTold.{disk_seen}
use Rattle.cell_walks.specs.Observed.{files_seen}
use Rattle.cell_texts.specs.Tests.{known}
use Rattle.cell_driver.proofs.Driven.{untouched_by}
use Rattle.cell_commands.proofs.Checking.{check_made}
use Rattle.cell_commands.proofs.check.CheckCommand.answer.Goals as goal

pub returns-clause-allowed : goal.returns-clause-allowed
returns-clause-allowed g c =
    check_made (files_seen g.F.Files c.args.files.now c.check_record.new.files) (disk_seen g.D.Disk c.args.disk c.args.disk)
    (known c.args.held) c.args.self.now.record_file.now (untouched_by g.D.Disk c.args.disk (g.met.D.Disk.only_now c.args.disk))
    c.check_record.result c.check_record.ensures.judged c.check_record.ensures.ended
