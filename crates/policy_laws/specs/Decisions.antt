-- When a request is granted, and when it is refused for a full neighborhood: by the state that it asks for.
use Rattle.std.specs.Prelude.{◌≡◌, ℕ, ◌<◌, ◌≤◌, Bool, true, false, ◌↔◌, Option, Some, List, [], ◌∷◌, ◌++◌, length}
use Rattle.std.specs.List.{list_any}
use Rattle.std.specs.Option.{option_map, option_map_or, option_and_then}
use Rattle.cell_base.specs.declared.cells.Cell.{Cell}
use Rattle.cell_base.specs.declared.cells.ResId.{ResId}
use Rattle.cell_base.specs.declared.requests.JobId.{JobId}
use Rattle.cell_base.specs.declared.requests.Part.{Part}
use Rattle.cell_base.specs.declared.requests.Request.{Request}
use Rattle.cell_base.specs.declared.requests.Request.TheVariants.{Load, Process, Move, Unload, Place}
use Rattle.cell_base.specs.declared.requests.Refusal.{Refusal}
use Rattle.cell_base.specs.declared.requests.Refusal.TheVariants.{Saturated}
use Rattle.cell_base.specs.declared.requests.Reply.{Reply}
use Rattle.cell_base.specs.declared.requests.Reply.TheVariants.{Granted, Refused}
use Rattle.cell_base.specs.Stages.{Stage, stage_of, successor, is_last, capacity_of}
use Rattle.cell_base.specs.Neighborhoods.{count}
use Rattle.cell_base.specs.Policy.{IsAdmitted, is_loaded}
use Rattle.cell_base.specs.Outcomes.{part_of, without, arrival, is_waiting_on, finish_first, reply_to, state_after}
use Rattle.cell_base.specs.Fits.{RequestFits}
use Rattle.policy_laws.specs.Laws.{MayMove, IsFull}

-- a part as it arrives by a branch of its stage, where there is such a branch
abbrev pub onward : Cell → ℕ → Part → Option Part
onward cell branch part = option_map (λ (to : Stage). arrival cell part.job part.kind to.place) (successor cell (stage_of part) branch)

-- the state that a request asks for, whatever it is told. A part that comes to a stage is the last one
abbrev pub wanted : Cell → List Part → Request → List Part
wanted cell parts (Load job kind) = parts ++ arrival cell job kind 0 ∷ []
wanted cell parts (Process machine) = finish_first (is_waiting_on cell machine.0) parts
wanted cell parts (Move job branch) =
    option_map_or (λ part. without parts part.job ++ part ∷ []) (option_and_then (onward cell branch) (part_of parts job)) parts
wanted cell parts (Unload job) = without parts job
wanted cell parts (Place done kind job place) = parts ++ (record { job = job; kind = kind; place = place; done = done }) ∷ []

-- the part of the job is done, and stands at a last stage
pub record MayLeave (cell : Cell) (parts : List Part) (job : JobId) (part : Part) : Type 0 where
  pub found : part_of parts job ≡ Some part
  pub done : part.done ≡ true
  pub last : is_last cell (stage_of part) ≡ true

-- no test before the one of the neighborhoods refuses: a part that comes in is of a new job, a part waits for the work, a part that
-- goes on is done and has a stage at the end of that branch, and a part that goes out is done and at a last stage
abbrev pub PassesTests : Cell → List Part → Request → Type 0
PassesTests cell parts (Load job kind) = is_loaded parts job ≡ false
PassesTests cell parts (Process machine) = list_any (is_waiting_on cell machine.0) parts ≡ true
PassesTests cell parts (Move job branch) = (part : Part) × ((to : Stage) × MayMove cell parts job branch part to)
PassesTests cell parts (Unload job) = (part : Part) × MayLeave cell parts job part
PassesTests cell parts (Place done kind job place) = is_loaded parts job ≡ false

-- the refusal is one for a full neighborhood
abbrev pub is_saturation : Refusal → Bool
is_saturation (Saturated at held units) = true
is_saturation _ = false

-- the reply is such a refusal
abbrev pub is_saturated : Reply → Bool
is_saturated Granted = false
is_saturated (Refused why) = is_saturation why

-- the least resource whose neighborhood holds more of these parts than it has units
pub record IsFirstOverfilled (cell : Cell) (parts : List Part) (at : ℕ) : Type 0 where
  pub resource : at < length cell.resources
  pub over : capacity_of cell at < count cell parts at
  pub before : (r : ℕ) → r < at → count cell parts r ≤ capacity_of cell r

-- where no earlier test refuses, the request is granted if the policy admits the state that it asks for, and refused for a full
-- neighborhood if not. The refusal names the least resource whose neighborhood that state overfills, with the count and the capacity of now
pub record IsDecided (cell : Cell) (parts : List Part) (request : Request) (reply : Reply) : Type 0 where
  pub granted : (reply ≡ Granted) ↔ (PassesTests cell parts request × IsAdmitted cell (wanted cell parts request))
  pub saturated : (is_saturated reply ≡ true) ↔ (PassesTests cell parts request × ¬ IsAdmitted cell (wanted cell parts request))
  pub least : (at : ResId) (held units : ℕ) → reply ≡ Refused (Saturated at held units)
      → IsFirstOverfilled cell (wanted cell parts request) at.0
  pub full : (at : ResId) (held units : ℕ) → reply ≡ Refused (Saturated at held units) → IsFull cell parts at held units

-- the reply is decided so, and a granted request has the state that it asks for
pub record DecidesBy (cell : Cell) (parts : List Part) (request : Request) : Type 0 where
  pub reply : IsDecided cell parts request (reply_to cell parts request)
  pub state : reply_to cell parts request ≡ Granted → state_after cell parts request ≡ wanted cell parts request

-- an admitted state decides each request that fits so
abbrev pub DecisionLaw : Cell → Type 0
DecisionLaw cell =
    (parts : List Part) → IsAdmitted cell parts → (request : Request) → RequestFits cell request → DecidesBy cell parts request
