-- The disk is not touched.
use Rattle.cell_walks.specs.DiskTold.{disk_seen}
use Rattle.cell_walks.specs.Observed.{files_seen}
use Rattle.cell_walks.proofs.Steps.{on_any_disk}
use Rattle.cell_texts.proofs.Disks.{untouched}
use Rattle.make_command.specs.Make.{make}
use Rattle.make_command.proofs.make.run_make.Goals as goal

pub returns-clause-ends : goal.returns-clause-ends
returns-clause-ends g c =
    let made = c.make_of_word-status.ensures in
    record {
      outcome = made.outcome;
      allowed = on_any_disk
          (files_seen g.F.Files c.args.files.now c.args.files.now) (disk_seen g.D.Disk c.args.disk c.args.disk)
          (untouched g.D.Disk.reads_as g.D.Disk.may_leave g.D.Disk.moment g.D.Disk.left_since g.D.Disk.faults c.args.disk
          (g.met.D.Disk.only_now c.args.disk))
          made.outcome (make c.args.usage.now c.args.number.now) (λ n. tt) made.allowed;
      delivered = made.delivered;
    }
