-- The words of an unload are read as one.
use Rattle.std.proofs.Common.{sym}
use Rattle.step_text.proofs.JobSteps.{unload_read}
use Rattle.step_text.proofs.job_steps.read_unload.Goals as goal

pub returns-in-Ok-clause-step : goal.returns-in-Ok-clause-step
returns-in-Ok-clause-step c = λ cell.
    unload_read cell c.args.text.now c.in_ok-after_unload.field-0.now c.in-Ok.job c.in_ok-after_unload.ensures (sym c.in-Ok.ensures)
