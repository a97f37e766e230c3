-- The words of a move are read as one.
use Rattle.std.proofs.Common.{sym}
use Rattle.step_text.proofs.JobSteps.{move_read}
use Rattle.step_text.proofs.job_steps.read_move.Goals as goal

pub returns-in-Ok-clause-step : goal.returns-in-Ok-clause-step
returns-in-Ok-clause-step c = λ cell.
    move_read cell c.args.text.now c.in_ok-after_move.field-0.now c.in-Ok.job c.in_ok-after_move.ensures (sym c.in-Ok.ensures)
