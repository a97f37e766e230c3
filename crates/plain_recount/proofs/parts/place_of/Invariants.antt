-- No part from the place on is of the job.
use Rattle.std.proofs.Common.{◌≡◌, ℕ, ◌<◌, ◌≤◌, false, length, get_or}
use Rattle.cell_base.specs.declared.requests.Part.{Part}
use Rattle.cell_base.specs.Policy.{is_of_job}
use Rattle.plain_recount.proofs.parts.place_of.Given as goal

abbrev pub invariant-loop-at : goal.invariant-loop-at
invariant-loop-at l = (k : ℕ) (d : Part) → l.at ≤ k → k < length l.parts → is_of_job l.fn.job (get_or l.parts k d) ≡ false
