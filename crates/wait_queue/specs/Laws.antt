-- What follows of watches and scans.
use Rattle.std.specs.Prelude.{◌≡◌, ℕ, true, false, Some, List}
use Rattle.cell_base.specs.declared.cells.Cell.{Cell}
use Rattle.cell_base.specs.declared.cells.ResId.{ResId}
use Rattle.cell_base.specs.declared.requests.JobId.{JobId}
use Rattle.cell_base.specs.declared.requests.Part.{Part}
use Rattle.cell_base.specs.declared.requests.Request.{Request}
use Rattle.cell_base.specs.declared.requests.Refusal.TheVariants.{Saturated}
use Rattle.cell_base.specs.declared.requests.Reply.TheVariants.{Granted, Refused}
use Rattle.cell_base.specs.Fits.{RequestFits}
use Rattle.cell_base.specs.Outcomes.{reply_to, state_after}
use Rattle.cell_base.specs.Policy.{IsAdmitted}
use Rattle.policy_laws.specs.Decisions.{is_saturated}
use Rattle.wait_queue.specs.Waiting.{Waiting, served}
use Rattle.wait_queue.specs.Watching.{HoldsAll, IsWatch, is_full, is_of, job_of}

-- While a watched neighborhood is full the request is saturated. A saturated request may watch the neighborhood that it is told. A granted
-- request of another job leaves the watch.
pub record IsWatchLaw (cell : Cell) (parts : List Part) (request : Request) : Type 0 where
  pub holds : (r : ResId) → IsWatch cell parts request (Some r) → is_full cell parts r ≡ true
      → is_saturated (reply_to cell parts request) ≡ true
  pub named : (at : ResId) (held units : ℕ) → reply_to cell parts request ≡ Refused (Saturated at held units)
      → IsWatch cell parts request (Some at) × (is_full cell parts at ≡ true)
  pub left : (asked : Request) (r : ResId) → RequestFits cell asked → reply_to cell parts asked ≡ Granted
      → ((job : JobId) → job_of request ≡ Some job → is_of job asked ≡ false) → IsWatch cell parts request (Some r)
      → IsWatch cell (state_after cell parts asked) request (Some r)

-- so it is at each state that the policy admits, of each request that fits
abbrev pub WatchLaw : Cell → Type 0
WatchLaw cell = (parts : List Part) (request : Request) → IsAdmitted cell parts → RequestFits cell request → IsWatchLaw cell parts request

-- a scan leaves nobody who could be granted, nor anybody who is to be dropped
abbrev pub ServedLaw : Cell → Type 0
ServedLaw cell = (on : Waiting) → HoldsAll cell (served cell on).parts (served cell on).waiters
