-- The cell is read, and then the command answers; or it ends there.
use Rattle.outside_io.specs.Meanings.{sink_seen}
use Rattle.cell_walks.specs.DiskTold.{disk_seen}
use Rattle.cell_texts.specs.Tests.{known}
use Rattle.cell_driver.proofs.Driven.{ends_answered, ends_unread, untouched_by}
use Rattle.cell_driver.proofs.driving.drive.Goals as goal

pub returns-in-Err-clause-ends : goal.returns-in-Err-clause-ends
returns-in-Err-clause-ends g c =
    ends_unread g.F.Files c.args.files.now c.read_cell.new.files (disk_seen g.D.Disk c.args.disk c.args.disk) c.args.cell.now
    (g.C.Command.onward c.args.command.now) (sink_seen g.K.Sink c.args.out.now c.finish_early-status.new.out) c.in-Err.end
    c.finish_early-status.result (untouched_by g.D.Disk c.args.disk (g.met.D.Disk.only_now c.args.disk)) c.in-Err.ensures.ended
    c.finish_early-status.ensures

pub returns-clause-ends : goal.returns-clause-ends
returns-clause-ends g c =
    ends_answered g.F.Files c.args.files.now c.read_cell.new.files c.answer-made.new.files
    (disk_seen g.D.Disk c.args.disk c.answer-made.result.disk) c.args.cell.now (known c.in-Ok.held)
    (g.C.Command.onward c.args.command.now) c.in-Ok.ensures.read c.in-Ok.ensures.same c.in-Ok.ensures.kept c.in-Ok.ensures.stays_sound
    (sink_seen g.K.Sink c.args.out.now c.print_made-status.new.out) c.print_made-status.result g.C.Command.outcome
    c.answer-made.result.made c.answer-made.ensures.allowed c.print_made-status.ensures
