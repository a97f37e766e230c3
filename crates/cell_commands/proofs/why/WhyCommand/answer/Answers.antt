-- The step is read, and then the journal.
use Rattle.std.proofs.Common.{◌∙◌, ap}
use Rattle.step_text.specs.Steps.{step_of}
use Rattle.cell_walks.specs.DiskTold.{disk_seen}
use Rattle.cell_walks.specs.Observed.{files_seen}
use Rattle.cell_texts.specs.Tests.{known}
use Rattle.cell_driver.proofs.Driven.{untouched_by}
use Rattle.cell_commands.proofs.Answering.{why_made, why_no_step}
use Rattle.cell_commands.proofs.why.WhyCommand.answer.Goals as goal

pub returns-in-Err-clause-allowed : goal.returns-in-Err-clause-allowed
returns-in-Err-clause-allowed g c =
    rw (c.ended.ensures.made, c.ended.ensures.disk)
    (rw c.at_step_fault.ensures
    (why_no_step (files_seen g.F.Files c.args._files.now c.args._files.now) (disk_seen g.D.Disk c.args.disk c.args.disk) (known c.args.held)
    c.args.self.now.step.now c.in-Err.fault (c.in-Err.ensures.step ∙ ap (step_of c.args.held.cell) c.as_bytes.ensures.value)
    (untouched_by g.D.Disk c.args.disk (g.met.D.Disk.only_now c.args.disk))))

pub returns-in-Ok-clause-allowed : goal.returns-in-Ok-clause-allowed
returns-in-Ok-clause-allowed g c =
    why_made (files_seen g.F.Files c.args._files.now c.args._files.now) (disk_seen g.D.Disk c.args.disk c.answer_of_journal.result.disk)
    (known c.args.held) c.args.self.now.step.now c.in-Ok.request
    (c.in-Ok.ensures.step ∙ ap (step_of c.args.held.cell) c.as_bytes.ensures.value) c.answer_of_journal.ensures.only_read
    c.answer_of_journal.result.made c.answer_of_journal.ensures.answer c.answer_of_journal.ensures.ended
