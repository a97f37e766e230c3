-- The cell is read, then the shift, and then the shift runs on the journal.
use Rattle.cell_walks.specs.DiskTold.{disk_told}
use Rattle.cell_texts.specs.Tests.{known}
use Rattle.cell_texts.proofs.Disks.{untouched}
use Rattle.run_command.proofs.Ran.{run_on_disk, run_unread, run_without_shift}
use Rattle.run_command.proofs.run.run_of_files.Goals as goal

pub returns-in-Err-clause-allowed : goal.returns-in-Err-clause-allowed
returns-in-Err-clause-allowed g c =
    rw (c.ended-in-Err.ensures.made, c.ended-in-Err.ensures.disk)
    (run_unread g.F.Files.holds g.F.Files.is_sound g.F.Files.faults
    (disk_told g.D.Disk.reads_as g.D.Disk.may_leave g.D.Disk.moment g.D.Disk.left_since g.D.Disk.faults c.args.disk c.args.disk)
    c.args.cell.now c.args.shift.now c.args.files.now c.read_cell.new.files c.in-Err.end
    (untouched g.D.Disk.reads_as g.D.Disk.may_leave g.D.Disk.moment g.D.Disk.left_since g.D.Disk.faults c.args.disk
    c.leaves_only_now.ensures)
    c.in-Err.ensures.ended)

pub returns-in-Err-read_shift-clause-allowed : goal.returns-in-Err-read_shift-clause-allowed
returns-in-Err-read_shift-clause-allowed g c =
    rw (c.ended.ensures.made, c.ended.ensures.disk)
    (run_without_shift g.F.Files.holds g.F.Files.is_sound g.F.Files.faults
    (disk_told g.D.Disk.reads_as g.D.Disk.may_leave g.D.Disk.moment g.D.Disk.left_since g.D.Disk.faults c.args.disk c.args.disk)
    c.args.cell.now c.args.shift.now c.args.files.now c.read_cell.new.files c.read_shift.new.files (known c.in-Ok.held)
    c.in-Ok.ensures.read c.in-Ok.ensures.same c.in-Err-read_shift.end
    (untouched g.D.Disk.reads_as g.D.Disk.may_leave g.D.Disk.moment g.D.Disk.left_since g.D.Disk.faults c.args.disk
    c.leaves_only_now.ensures)
    c.in-Ok.ensures.kept c.in-Ok.ensures.stays_sound c.in-Err-read_shift.ensures.ended)

pub returns-in-Ok-read_shift-clause-allowed : goal.returns-in-Ok-read_shift-clause-allowed
returns-in-Ok-read_shift-clause-allowed g c =
    run_on_disk g.F.Files.holds g.F.Files.is_sound g.F.Files.faults
    (disk_told g.D.Disk.reads_as g.D.Disk.may_leave g.D.Disk.moment g.D.Disk.left_since g.D.Disk.faults c.args.disk
    c.run_journal.result.disk)
    c.args.cell.now c.args.shift.now c.args.files.now c.read_cell.new.files c.read_shift.new.files (known c.in-Ok.held)
    c.in-Ok.ensures.read c.in-Ok.ensures.same c.in-Ok-read_shift.shift c.run_journal.result.made c.in-Ok-read_shift.ensures.read
    c.run_journal.ensures.run
