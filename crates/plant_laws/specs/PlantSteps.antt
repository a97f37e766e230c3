-- The steps of a plant: what is asked of one controller, when it is asked, and the state after it.
use Rattle.std.specs.Prelude.{ℕ, ◌<◌, ◌==◌, ⊤, Bool, if◌then◌else◌, Option, None, Some, List, [], ◌∷◌, length, unwrap_or}
use Rattle.std.specs.Option.{option_and_then}
use Rattle.cell_base.specs.declared.limits.TheConstants.{MAX_BRANCHES}
use Rattle.cell_base.specs.declared.cells.Cell.{Cell}
use Rattle.cell_base.specs.declared.cells.ResId.{ResId}
use Rattle.cell_base.specs.declared.cells.TypeId.{TypeId}
use Rattle.cell_base.specs.declared.requests.JobId.{JobId}
use Rattle.cell_base.specs.declared.requests.Part.{Part}
use Rattle.cell_base.specs.declared.requests.Request.{Request}
use Rattle.cell_base.specs.declared.requests.Request.TheVariants.{Load, Process, Move, Unload}
use Rattle.cell_base.specs.Stages.{stage_of}
use Rattle.cell_base.specs.Outcomes.{part_of, reply_to, state_after}
use Rattle.cell_base.specs.Histories.{is_granted}
use Rattle.cell_base.specs.Fits.{RequestFits}
use Rattle.plant_laws.specs.declared.plants.Plant.{Plant}
use Rattle.plant_laws.specs.Plants.{IsCell, cell_at, cell_of, visit_at}
use Rattle.plant_laws.specs.PlantStates.{PlantState, first_queued, has_arrived, stands_nowhere, stands_once, is_over}

-- what is asked of a cell between a load and an unload
pub data CellStep : Type 0 where
  process : ResId → CellStep
  move : JobId → ℕ → CellStep

-- as a request
abbrev pub request_of : CellStep → Request
request_of (process machine) = Process machine
request_of (move job branch) = Move job branch

-- a step of a plant, a request to one controller. The plant is asked to load a job that stands nowhere. A cell is asked to load the
-- first of its queue, or to work, or to unload what is over for it. The plant is asked to pass on a part that has arrived and stands
-- nowhere else, or to let out one that has arrived
pub data PlantStep : Type 0 where
  load : JobId → TypeId → PlantStep
  enter : ℕ → PlantStep
  work_in : ℕ → CellStep → PlantStep
  clear : ℕ → JobId → PlantStep
  pass_on : JobId → ℕ → PlantStep
  let_out : JobId → PlantStep

-- a step whose numbers are in range
abbrev pub StepFits : Plant → PlantStep → Type 0
StepFits plant (load job kind) = kind.0 < length plant.above.types
StepFits plant (enter c) = IsCell plant c
StepFits plant (work_in c step) = IsCell plant c × RequestFits (cell_at plant c) (request_of step)
StepFits plant (clear c job) = IsCell plant c
StepFits plant (pass_on job branch) = branch < MAX_BRANCHES
StepFits plant (let_out job) = ⊤

-- the parts after a request, where it is granted
abbrev pub granted_parts : Cell → List Part → Request → Option (List Part)
granted_parts cell parts request =
    if is_granted (reply_to cell parts request) then Some (state_after cell parts request) else None

-- the parts of each cell where those of one are others
abbrev pub with_parts : (ℕ → List Part) → ℕ → List Part → ℕ → List Part
with_parts below c parts d = if d == c then parts else below d

-- the state after the plant's own controller granted a request
abbrev pub after_above : Plant → PlantState → Request → Option PlantState
after_above plant state request =
    option_and_then (λ above. Some (record state { above = above })) (granted_parts plant.above state.above request)

-- the state after a cell granted a request
abbrev pub after_below : Plant → PlantState → ℕ → Request → Option PlantState
after_below plant state c request =
    option_and_then (λ parts. Some (record state { below = with_parts state.below c parts }))
    (granted_parts (cell_at plant c) (state.below c) request)

-- the state after the load of a part in the cell where it belongs
abbrev pub after_entry : Plant → PlantState → Part → Option PlantState
after_entry plant state part = after_below plant state (cell_of plant part) (Load part.job (visit_at plant (stage_of part)))

-- nothing is asked unless a test passes
abbrev pub only_if : Bool → Option PlantState → Option PlantState
only_if test next = if test then next else None

-- nothing is asked for a job unless its part has arrived
abbrev pub where_arrived : Plant → PlantState → JobId → (Part → Option PlantState) → Option PlantState
where_arrived plant state job next =
    option_and_then (λ part. only_if (has_arrived plant state part) (next part)) (part_of state.above job)

-- the state after a step, where it is asked and granted
abbrev pub step_outcome : Plant → PlantState → PlantStep → Option PlantState
step_outcome plant state (load job kind) = only_if (stands_nowhere plant state job) (after_above plant state (Load job kind))
step_outcome plant state (enter c) = option_and_then (after_entry plant state) (first_queued plant state c)
step_outcome plant state (work_in c step) = after_below plant state c (request_of step)
step_outcome plant state (clear c job) = only_if (is_over plant state c job) (after_below plant state c (Unload job))
step_outcome plant state (pass_on job branch) =
    where_arrived plant state job (λ part. only_if (stands_once plant state part) (after_above plant state (Move job branch)))
step_outcome plant state (let_out job) = where_arrived plant state job (λ part. after_above plant state (Unload job))

-- the state after a step; one that is not granted leaves the state
abbrev pub plant_after : Plant → PlantState → PlantStep → PlantState
plant_after plant state step = unwrap_or (step_outcome plant state step) state

-- the state after steps, granted or not
abbrev pub plant_after_steps : Plant → PlantState → List PlantStep → PlantState
plant_after_steps plant state [] = state
plant_after_steps plant state (step ∷ steps) = plant_after_steps plant (plant_after plant state step) steps

-- a practice of whoever hands over: which steps are asked and granted, and the state after each
abbrev pub Practice : Type 0
Practice = PlantState → PlantStep → Option PlantState

-- the state after steps, where each of them is granted in its turn
abbrev pub granted_in_turn : Practice → PlantState → List PlantStep → Option PlantState
granted_in_turn practice state [] = Some state
granted_in_turn practice state (step ∷ steps) = option_and_then (λ next. granted_in_turn practice next steps) (practice state step)

-- the same by the rules of the plant
abbrev pub steps_outcome : Plant → PlantState → List PlantStep → Option PlantState
steps_outcome plant = granted_in_turn (step_outcome plant)
