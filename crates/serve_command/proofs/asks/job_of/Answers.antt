-- Several words are no job.
use Rattle.std.proofs.Common.{sym}
use Rattle.serve_command.proofs.Asking.{no_job_asked}
use Rattle.serve_command.proofs.asks.job_of.Goals as goal

pub returns-in-Some-clause-ask : goal.returns-in-Some-clause-ask
returns-in-Some-clause-ask c = sym (no_job_asked (λ r. r.now) _ _ c.cut.result.1 c.cut.ensures c.in-Some.field-0 c.in-Some.is)
