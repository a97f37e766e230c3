-- The jobs are those of the parts so far that are counted.
use Rattle.std.proofs.Common.{◌≡◌, take}
use Rattle.cell_base.specs.Neighborhoods.{counted}
use Rattle.refusal_reason.specs.Reasons.{jobs_of}
use Rattle.refusal_reason.proofs.reasons.counted_jobs.Given as goal

abbrev pub invariant-loop-part : goal.invariant-loop-part
invariant-loop-part l = l.jobs ≡ jobs_of (counted l.core.cell (take l.part-index l.core.parts) l.r.0)
