-- What a waiter watches: a full neighborhood that its request would enter.
use Rattle.std.specs.Prelude.{◌≡◌, ◌≢◌, ℕ, ◌<◌, Bool, true, false, nat_le, Option, None, Some, List, ◌==◌, get_or, length, ⊤}
use Rattle.std.specs.List.{All}
use Rattle.std.specs.Option.{option_map_or}
use Rattle.cell_base.specs.declared.cells.Cell.{Cell}
use Rattle.cell_base.specs.declared.cells.ResId.{ResId}
use Rattle.cell_base.specs.declared.requests.JobId.{JobId}
use Rattle.cell_base.specs.declared.requests.Part.{Part}
use Rattle.cell_base.specs.declared.requests.Request.{Request}
use Rattle.cell_base.specs.declared.requests.Request.TheVariants.{Load, Process, Move, Unload, Place}
use Rattle.cell_base.specs.Fits.{RequestFits}
use Rattle.cell_base.specs.Masks.{has_bit}
use Rattle.cell_base.specs.Neighborhoods.{count, leads}
use Rattle.cell_base.specs.Outcomes.{reply_to}
use Rattle.cell_base.specs.Policy.{is_loaded}
use Rattle.cell_base.specs.Stages.{Stage, capacity_of, stage, stage_of}
use Rattle.policy_laws.specs.Decisions.{is_saturated}
use Rattle.policy_laws.specs.Laws.{MayMove}
use Rattle.wait_queue.specs.declared.looking.Found.{Found}
use Rattle.wait_queue.specs.declared.looking.Found.TheVariants.{Ready, Nobody}
use Rattle.wait_queue.specs.declared.waiter.Waiter.{Waiter}
use Rattle.wait_queue.specs.Waiting.{is_ready}

-- No test before the one of the neighborhoods refuses the request, and its part would come new to the neighborhood of this resource.
abbrev pub Enters : Cell → List Part → Request → ResId → Type 0
Enters cell parts (Load job kind) r = (is_loaded parts job ≡ false) × (leads cell (stage kind.0 0) r.0 ≡ true)
Enters cell parts (Process machine) r = ⊥
Enters cell parts (Move job branch) r =
    (part : Part) × ((to : Stage) × (MayMove cell parts job branch part to
    × ((leads cell (stage part.kind.0 to.place) r.0 ≡ true) × (leads cell (stage_of part) r.0 ≡ false))))
Enters cell parts (Unload job) r = ⊥
Enters cell parts (Place done kind job place) r = (is_loaded parts job ≡ false) × (leads cell (stage kind.0 place) r.0 ≡ true)

-- a resource of the cell whose neighborhood the request would enter, or nothing
abbrev pub IsWatch : Cell → List Part → Request → Option ResId → Type 0
IsWatch cell parts request None = ⊤
IsWatch cell parts request (Some r) = (r.0 < length cell.resources) × Enters cell parts request r

-- the neighborhood is full
abbrev pub is_full : Cell → List Part → ResId → Bool
is_full cell parts r = nat_le (capacity_of cell r.0) (count cell parts r.0)

-- a watched neighborhood that is full, and the request is refused for want of room; or nothing, and it is not
abbrev pub IsHeld : Cell → List Part → Request → Option ResId → Type 0
IsHeld cell parts request None = is_saturated (reply_to cell parts request) ≡ false
IsHeld cell parts request (Some r) =
    IsWatch cell parts request (Some r) × ((is_full cell parts r ≡ true) × (is_saturated (reply_to cell parts request) ≡ true))

-- the bits of a mask are those of the resources that are full
abbrev pub IsFullMask : Cell → List Part → ℕ → Type 0
IsFullMask cell parts mask = (r : ℕ) → r < length cell.resources → has_bit mask r ≡ nat_le (capacity_of cell r) (count cell parts r)

-- each request fits
abbrev pub AreFit : Cell → List Waiter → Type 0
AreFit cell waiters = All (λ (waiter : Waiter). RequestFits cell waiter.request) waiters

-- each waiter watches so
abbrev pub AreWatching : Cell → List Part → List Waiter → List (Option ResId) → Type 0
AreWatching cell parts waiters watches =
    (k : ℕ) (waiter : Waiter) (watch : Option ResId) → k < length waiters
    → IsWatch cell parts (get_or waiters k waiter).request (get_or watches k watch)

-- the mask has the resource that is watched
abbrev pub IsCovered : ℕ → Option ResId → Type 0
IsCovered mask None = ⊤
IsCovered mask (Some r) = has_bit mask r.0 ≡ true

abbrev pub AreCovered : ℕ → List (Option ResId) → Type 0
AreCovered mask watches = All (IsCovered mask) watches

-- each waiter watches a resource
abbrev pub AreWatched : List (Option ResId) → Type 0
AreWatched watches = All (λ (watch : Option ResId). watch ≢ None) watches

-- the job whose part a request changes
abbrev pub job_of : Request → Option JobId
job_of (Load job kind) = Some job
job_of (Process machine) = None
job_of (Move job branch) = Some job
job_of (Unload job) = Some job
job_of (Place done kind job place) = Some job

-- the request is of this job
abbrev pub is_of : JobId → Request → Bool
is_of job request = option_map_or (λ (own : JobId). own.0 == job.0) (job_of request) false

-- what is watched still was watched before, and not for a request of this job
abbrev pub IsWithout : JobId → Waiter → Option ResId → Option ResId → Type 0
IsWithout job waiter old None = ⊤
IsWithout job waiter old (Some r) = (old ≡ Some r) × (is_of job waiter.request ≡ false)

abbrev pub AreWithout : JobId → List Waiter → List (Option ResId) → List (Option ResId) → Type 0
AreWithout job waiters old new =
    (k : ℕ) (waiter : Waiter) (watch : Option ResId) → k < length waiters
    → IsWithout job (get_or waiters k waiter) (get_or old k watch) (get_or new k watch)

-- each waiter is refused for want of room: no request waits that could be granted
abbrev pub HoldsAll : Cell → List Part → List Waiter → Type 0
HoldsAll cell parts waiters = All (λ (waiter : Waiter). is_saturated (reply_to cell parts waiter.request) ≡ true) waiters

-- The waiter of this index is the first that is ready; or none is, each watches a resource, and the mask has these.
abbrev pub IsFound : Cell → List Part → List Waiter → List (Option ResId) → Found → Type 0
IsFound cell parts waiters watches (Ready at) =
    (at < length waiters) × ((waiter : Waiter) → (is_ready cell parts (get_or waiters at waiter) ≡ true)
    × ((k : ℕ) → k < at → is_ready cell parts (get_or waiters k waiter) ≡ false))
IsFound cell parts waiters watches (Nobody watched) =
    All (λ (waiter : Waiter). is_ready cell parts waiter ≡ false) waiters × (AreWatched watches × AreCovered watched watches)
