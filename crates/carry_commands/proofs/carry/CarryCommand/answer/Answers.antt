-- The second cell is read, and then the journal, whose parts are carried.
use Rattle.cell_walks.specs.DiskTold.{disk_seen}
use Rattle.cell_walks.specs.Observed.{files_seen}
use Rattle.cell_texts.specs.Tests.{known}
use Rattle.cell_driver.proofs.Driven.{untouched_by}
use Rattle.carry_commands.proofs.CarryWalk.{carry_made, carry_without_other}
use Rattle.carry_commands.proofs.carry.CarryCommand.answer.Goals as goal

pub returns-in-Err-clause-allowed : goal.returns-in-Err-clause-allowed
returns-in-Err-clause-allowed g c =
    rw (c.ended.ensures.made, c.ended.ensures.disk)
    (carry_without_other (files_seen g.F.Files c.args.files.now c.read_cell.new.files) (disk_seen g.D.Disk c.args.disk c.args.disk)
    (known c.args.held) c.args.self.now.other.now c.in-Err.end (untouched_by g.D.Disk c.args.disk (g.met.D.Disk.only_now c.args.disk))
    c.in-Err.ensures.ended)

pub returns-in-Ok-clause-allowed : goal.returns-in-Ok-clause-allowed
returns-in-Ok-clause-allowed g c =
    carry_made (files_seen g.F.Files c.args.files.now c.read_cell.new.files) (disk_seen g.D.Disk c.args.disk c.carried_of_journal.result.disk)
    (known c.args.held) c.args.self.now.other.now (known c.in-Ok.new) c.in-Ok.ensures.read c.in-Ok.ensures.fits
    c.carried_of_journal.ensures.only_read c.carried_of_journal.result.made c.carried_of_journal.ensures.carried
    c.carried_of_journal.ensures.ended
