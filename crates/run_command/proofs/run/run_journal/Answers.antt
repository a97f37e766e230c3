-- The journal is opened and the shift runs on it, or the command ends there.
use Rattle.std.proofs.Common.{refl}
use Rattle.cell_walks.specs.Allowed.{NotOpened}
use Rattle.cell_texts.specs.Tests.{known}
use Rattle.run_command.proofs.Ran.{run_opened}
use Rattle.run_command.proofs.run.run_journal.Goals as goal

pub returns-in-Ok-clause-run : goal.returns-in-Ok-clause-run
returns-in-Ok-clause-run g c =
    run_opened g.D.Disk.reads_as g.D.Disk.may_leave g.D.Disk.moment g.D.Disk.left_since g.D.Disk.faults (known c.args.held)
    c.args.shift.now c.args.disk c.start.result.disk c.in-Ok.opened.durable _ c.start.result.made c.in-Ok.ensures.new
    (rw c.steps_of-room.ensures at c.in-Ok.ensures.opening) c.start.ensures.due c.start.ensures.started

pub returns-in-Err-clause-run : goal.returns-in-Err-clause-run
returns-in-Err-clause-run g c =
    rw (c.ended.ensures.made, c.ended.ensures.disk)
    (NotOpened c.in-Err.unopened.made (rw c.steps_of-room.ensures at c.in-Err.ensures.ended) refl)
