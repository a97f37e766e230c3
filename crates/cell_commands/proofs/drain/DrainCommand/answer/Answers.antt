-- The journal is opened and drained, or the command ends there.
use Rattle.std.proofs.Common.{refl}
use Rattle.cell_walks.specs.Allowed.{NotOpened}
use Rattle.cell_walks.specs.Observed.{files_seen}
use Rattle.cell_texts.specs.Tests.{known}
use Rattle.cell_driver.specs.Driving.{Allowed}
use Rattle.journal_texts.specs.Recorded.{recorded_outcome}
use Rattle.cell_commands.specs.declared.drain.TheConstants.{MAX_PLAN}
use Rattle.cell_commands.proofs.Draining.{drain_opened}
use Rattle.cell_commands.proofs.drain.DrainCommand.answer.Goals as goal

pub returns-in-Ok-clause-allowed : goal.returns-in-Ok-clause-allowed
returns-in-Ok-clause-allowed g c =
    Allowed
    (drain_opened g.D.Disk (known c.args.held) c.args.disk
    c.drain_all-recorded.result.disk c.in-Ok.opened.durable MAX_PLAN (recorded_outcome c.drain_all-recorded.result.made)
    c.in-Ok.ensures.new c.in-Ok.ensures.opening c.drain_all-recorded.ensures.due c.drain_all-recorded.ensures.drained
    c.drain_all-recorded.ensures.stands (files_seen g.F.Files c.args._files.now c.args._files.now))

pub returns-in-Err-clause-allowed : goal.returns-in-Err-clause-allowed
returns-in-Err-clause-allowed g c =
    rw (c.ended.ensures.made, c.ended.ensures.disk)
    (Allowed (NotOpened c.in-Err.unopened.made c.in-Err.ensures.ended refl))
