-- The shift is read, and then it runs.
use Rattle.std.proofs.Common.{refl}
use Rattle.cell_walks.specs.Allowed.{Passed, Unasked}
use Rattle.cell_walks.specs.DiskTold.{disk_seen}
use Rattle.cell_walks.specs.Observed.{files_seen, observed}
use Rattle.cell_walks.proofs.Steps.{ended_at}
use Rattle.cell_texts.specs.Tests.{known, shift_file}
use Rattle.cell_driver.specs.Driving.{Allowed, Starved}
use Rattle.cell_driver.proofs.Driven.{untouched_by}
use Rattle.queue_command.proofs.Queueing.{queue_ran, ran}
use Rattle.queue_command.proofs.queue.QueueCommand.answer.Goals as goal

pub returns-clause-allowed : goal.returns-clause-allowed
returns-clause-allowed g c =
    rw (c.ended-in-Err.ensures.made, c.ended-in-Err.ensures.disk)
    (Allowed
    (ended_at (observed (files_seen g.F.Files c.args.files.now c.read_shift.new.files) (disk_seen g.D.Disk c.args.disk c.args.disk)) Unasked
    (shift_file c.args.held.cell c.args.self.now.shift.now) (ran (known c.args.held)) c.in-Err.end c.in-Err.ensures.ended
    (untouched_by g.D.Disk c.args.disk (g.met.D.Disk.only_now c.args.disk))))

pub returns-in-Ok-clause-allowed : goal.returns-in-Ok-clause-allowed
returns-in-Ok-clause-allowed g c =
    rw (c.ended.ensures.made, c.ended.ensures.disk)
    (Starved refl (untouched_by g.D.Disk c.args.disk (g.met.D.Disk.only_now c.args.disk)))

pub returns-in-Ok-run_rounds-clause-allowed : goal.returns-in-Ok-run_rounds-clause-allowed
returns-in-Ok-run_rounds-clause-allowed g c =
    Allowed
    (Passed c.in-Ok.shift c.in-Ok.ensures.read (
      queue_ran c.args.held.cell c.in-Ok.shift c.in-Ok-run_rounds.board c.in-Ok-run_rounds.ensures.run,
      untouched_by g.D.Disk c.args.disk (g.met.D.Disk.only_now c.args.disk),
    ))
