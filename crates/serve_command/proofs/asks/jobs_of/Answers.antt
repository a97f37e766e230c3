-- What is read is the step of the words.
use Rattle.std.proofs.Common.{ap, ◌∙◌}
use Rattle.serve_command.specs.Asks.{asked_jobs}
use Rattle.serve_command.proofs.Asking.{step_is}
use Rattle.serve_command.proofs.asks.jobs_of.Goals as goal

pub returns-in-Ok-clause-ask : goal.returns-in-Ok-clause-ask
returns-in-Ok-clause-ask c = ap asked_jobs (c.in-Ok.ensures.step ∙ step_is c.args.cell.now c.args.text.now)

pub returns-in-Err-clause-ask : goal.returns-in-Err-clause-ask
returns-in-Err-clause-ask c = ap asked_jobs (c.in-Err.ensures.step ∙ step_is c.args.cell.now c.args.text.now)
