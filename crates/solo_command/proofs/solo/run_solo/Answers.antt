-- The disk is not touched, and what is put is the record of the shift or the line of the early end.
use Rattle.cell_walks.specs.DiskTold.{disk_told}
use Rattle.cell_walks.specs.Observed.{files_told}
use Rattle.cell_walks.specs.Outcomes.{done, early}
use Rattle.cell_walks.proofs.Steps.{on_any_disk}
use Rattle.solo_command.specs.Solo.{solo}
use Rattle.cell_texts.proofs.Disks.{untouched}
use Rattle.solo_command.proofs.solo.run_solo.Goals as goal

pub returns-in-Ok-clause-ends : goal.returns-in-Ok-clause-ends
returns-in-Ok-clause-ends g c = let told = c.play-status.ensures in record {
  outcome = done told.lines;
  allowed = on_any_disk
      (files_told g.F.Files.holds g.F.Files.is_sound g.F.Files.faults c.args.files.now c.ready_of_files.new.files)
      (disk_told g.D.Disk.reads_as g.D.Disk.may_leave g.D.Disk.moment g.D.Disk.left_since g.D.Disk.faults c.args.disk c.args.disk)
      (untouched g.D.Disk.reads_as g.D.Disk.may_leave g.D.Disk.moment g.D.Disk.left_since g.D.Disk.faults c.args.disk
      (g.met.D.Disk.only_now c.args.disk))
      (done told.lines) (solo c.args.cell.now c.args.shift.now) (λ held shift. tt)
      (c.in-Ok.ensures.allowed told.lines told.recorded);
  delivered = told.delivered;
}

pub returns-in-Err-clause-ends : goal.returns-in-Err-clause-ends
returns-in-Err-clause-ends g c = record {
  outcome = early c.in-Err.end;
  allowed = on_any_disk
      (files_told g.F.Files.holds g.F.Files.is_sound g.F.Files.faults c.args.files.now c.ready_of_files.new.files)
      (disk_told g.D.Disk.reads_as g.D.Disk.may_leave g.D.Disk.moment g.D.Disk.left_since g.D.Disk.faults c.args.disk c.args.disk)
      (untouched g.D.Disk.reads_as g.D.Disk.may_leave g.D.Disk.moment g.D.Disk.left_since g.D.Disk.faults c.args.disk
      (g.met.D.Disk.only_now c.args.disk))
      (early c.in-Err.end) (solo c.args.cell.now c.args.shift.now) (λ held shift. tt)
      c.in-Err.ensures.ended;
  delivered = c.finish_early.ensures;
}
