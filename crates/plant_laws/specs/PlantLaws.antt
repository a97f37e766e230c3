-- The laws of a plant that keeps the rules.
use Rattle.std.specs.Prelude.{◌≡◌, ℕ, ◌+◌, ◌≤◌, true, Some, List, length, map, IsTrue}
use Rattle.std.specs.List.{All}
use Rattle.cell_base.specs.declared.cells.Cell.{Cell}
use Rattle.cell_base.specs.declared.requests.JobId.{JobId}
use Rattle.cell_base.specs.declared.requests.Part.{Part}
use Rattle.cell_base.specs.Stages.{capacity_of}
use Rattle.cell_base.specs.Policy.{IsAdmitted, is_loaded}
use Rattle.cell_base.specs.Histories.{after_requests, all_granted}
use Rattle.cell_base.specs.Fits.{RequestFits}
use Rattle.plant_laws.specs.declared.plants.Plant.{Plant}
use Rattle.plant_laws.specs.Plants.{IsCell, cell_at, cell_of, exit_of, is_at_exit}
use Rattle.plant_laws.specs.PlantStates.{PlantState, is_over, IsPlantState, IsTidy, IsEmptied, no_parts, next_queued}
use Rattle.plant_laws.specs.PlantSteps.{CellStep, request_of, PlantStep, enter, clear, StepFits}
use Rattle.plant_laws.specs.PlantSteps.{Practice, granted_in_turn, step_outcome, plant_after_steps}

-- each request fits and is granted in its turn, and then all parts stand done where their routes end
pub record Gathers (cell : Cell) (parts : List Part) (steps : List CellStep) : Type 0 where
  pub fit : All (λ step. RequestFits cell (request_of step)) steps
  pub granted : IsTrue (all_granted cell parts (map request_of steps))
  pub gathered : All (λ part. is_at_exit cell part ≡ true) (after_requests cell parts (map request_of steps))

-- a cell that holds at most as many parts as its exit has units can bring all of them there
abbrev pub GatherLaw : Cell → ℕ → Type 0
GatherLaw cell exit =
    (parts : List Part) → IsAdmitted cell parts → length parts ≤ capacity_of cell exit → (steps : List CellStep) × Gathers cell parts steps

-- each step that fits and is granted leaves a state of the plant
abbrev pub StateLaw : Plant → Type 0
StateLaw plant =
    (state : PlantState) → IsPlantState plant state → (step : PlantStep) → StepFits plant step → (next : PlantState)
    → step_outcome plant state step ≡ Some next → IsPlantState plant next

-- what is over for a cell in which it stands is unloaded there at the first asking
abbrev pub ClearLaw : Plant → Type 0
ClearLaw plant =
    (state : PlantState) → IsPlantState plant state → (c : ℕ) → IsCell plant c → (job : JobId) → is_loaded (state.below c) job ≡ true
    → is_over plant state c job ≡ true → (next : PlantState) × (step_outcome plant state (clear c job) ≡ Some next)

-- a part may come into its cell: the cell holds fewer parts than its exit has units, and once it brought them there the part enters
pub record MayEnter (plant : Plant) (state : PlantState) (part : Part) : Type 0 where
  pub few : length (state.below (cell_of plant part)) + 1 ≤ capacity_of (cell_at plant (cell_of plant part))
      (exit_of plant (cell_of plant part))
  pub enters : All (λ q. is_at_exit (cell_at plant (cell_of plant part)) q ≡ true) (state.below (cell_of plant part))
      → (next : PlantState) × (step_outcome plant state (enter (cell_of plant part)) ≡ Some next)

-- the first of the queue may come into its cell once all is tidy
abbrev pub EntryLaw : Plant → Type 0
EntryLaw plant =
    (state : PlantState) → IsPlantState plant state → IsTidy plant state → (part : Part) → next_queued plant state ≡ Some part
    → MayEnter plant state part

-- steps that fit, are granted in their turn by this practice, and lead to this state
pub record AreGranted (practice : Practice) (plant : Plant) (state next : PlantState) (steps : List PlantStep) : Type 0 where
  pub fit : All (StepFits plant) steps
  pub granted : granted_in_turn practice state steps ≡ Some next

-- some list of steps that this practice grants empties the plant
abbrev pub CanBeEmptiedBy : Practice → Plant → PlantState → Type 0
CanBeEmptiedBy practice plant state =
    (steps : List PlantStep) × (next : PlantState) × AreGranted practice plant state next steps × IsEmptied plant next

-- some list of granted steps empties the plant
abbrev pub CanBeEmptied : Plant → PlantState → Type 0
CanBeEmptied plant = CanBeEmptiedBy (step_outcome plant) plant

-- each state of the plant can be emptied
abbrev pub PlantLaw : Plant → Type 0
PlantLaw plant = (state : PlantState) → IsPlantState plant state → CanBeEmptied plant state

-- a plant is live: what any steps leave of the empty plant, granted or not, can be emptied
abbrev pub LiveLaw : Plant → Type 0
LiveLaw plant =
    (steps : List PlantStep) → All (StepFits plant) steps → CanBeEmptied plant (plant_after_steps plant no_parts steps)
