-- What comes of a plant that keeps all rules but one: steps after which nothing is granted any more, of whatever job, so that no steps
-- empty it. Each row begins with the empty plant.
use Rattle.std.specs.Prelude.{◌≡◌, ℕ, Some, None, List, [], ◌∷◌, reverse}
use Rattle.std.specs.Option.{option_and_then}
use Rattle.cell_base.specs.declared.requests.Request.TheVariants.{Load, Move}
use Rattle.plant_laws.specs.declared.plants.Plant.{Plant}
use Rattle.plant_laws.specs.declared.plants.PlantCell.{PlantCell}
use Rattle.plant_laws.specs.Plants.{Rule, KeepsAllBut}
use Rattle.plant_laws.specs.PlantStates.{PlantState, no_parts, first_queued}
use Rattle.plant_laws.specs.PlantSteps.{PlantStep, load, enter, clear, pass_on, let_out, StepFits}
use Rattle.plant_laws.specs.PlantSteps.{Practice, step_outcome, granted_in_turn, after_above, after_entry, where_arrived}
use Rattle.plant_laws.specs.PlantLaws.{CanBeEmptiedBy}
use Rattle.plant_laws.specs.SmallPlant.{cell_below, plant_with, small_plant, small_cell, there_and_back, crossing, goes_through, job, kind}
use Rattle.plant_laws.specs.SmallPlant.{one_place, two_places, hold_on, name_p, name_q, name_r}

-- no step that fits is granted by this practice, of whatever job, and so no steps empty the plant
pub record StandsStill (practice : Practice) (plant : Plant) (state : PlantState) : Type 0 where
  pub refused : (step : PlantStep) → StepFits plant step → practice state step ≡ None
  pub never_emptied : ¬ CanBeEmptiedBy practice plant state

-- a trial of what comes where a rule is left out: a practice in a plant, and steps from the empty plant on
pub record Trial : Type 0 where
  pub plant : Plant
  pub practice : Practice
  pub steps : List PlantStep

-- the steps are granted in their turn, and then the plant stands still
abbrev pub Stops : Trial → Type 0
Stops trial =
    (state : PlantState) × (granted_in_turn trial.practice no_parts trial.steps ≡ Some state)
    × StandsStill trial.practice trial.plant state

-- the plant keeps all rules but this, and stands still after these steps
abbrev pub StopsWithout : Rule → Trial → Type 0
StopsWithout rule trial = KeepsAllBut rule trial.plant × Stops trial

-- a cell whose routes have one place each, on this resource; its exit is B, which has two units
abbrev pub ends_on : ℕ → PlantCell
ends_on r =
    record {
      cell = small_cell 1 2 (one_place name_p (hold_on r) ∷ one_place name_q (hold_on r) ∷ []);
      exit = record { 0 = 1 };
    }

-- the routes of J end on A, which has one unit: part 2 stands there, and part 1 waits for it, whose place at the exit of I part 2 needs
abbrev pub routes_end_anywhere : Trial
routes_end_anywhere =
    let plant : Plant = plant_with (ends_on 0) there_and_back in
    record {
      plant = plant;
      practice = step_outcome plant;
      steps =
          load (job 1) (kind 0)
          ∷ goes_through 0 (job 1) (
          load (job 2) (kind 1) ∷ enter 1 ∷ pass_on (job 1) 0 ∷ pass_on (job 2) 0 ∷ load (job 3) (kind 1) ∷ []
          );
    }

-- the exit of J has one unit, and the plant gives J two: part 2 stands there, and the same comes of it
abbrev pub exit_is_small : Trial
exit_is_small =
    let plant : Plant = plant_with (cell_below 1) there_and_back in
    record { plant = plant; practice = step_outcome plant; steps = crossing [] }

-- two parts of type Q come to the exit of J
abbrev pub fill_j : List PlantStep → List PlantStep
fill_j later = load (job 2) (kind 1) ∷ goes_through 1 (job 2) (load (job 3) (kind 1) ∷ goes_through 1 (job 3) later)

-- a third type that goes through I, and then through I again: its part stands there already as the part of its first visit
abbrev pub follows_on_itself : Trial
follows_on_itself =
    let plant : Plant = plant_with (cell_below 2) (two_places name_r (hold_on 0) (hold_on 0)) in
    record {
      plant = plant;
      practice = step_outcome plant;
      steps = load (job 1) (kind 2) ∷ goes_through 0 (job 1) (pass_on (job 1) 0 ∷ fill_j []);
    }

-- the practice by which the last of the queue enters a cell
abbrev pub last_enters : Plant → Practice
last_enters plant state (enter c) =
    option_and_then (after_entry plant state) (first_queued plant (record state { above = reverse state.above }) c)
last_enters plant state step = step_outcome plant state step

-- part 3 comes to J before part 1, and now parts 2 and 3 stand at the exit of J
abbrev pub any_order : Trial
any_order = record { plant = small_plant; practice = last_enters small_plant; steps = crossing (goes_through 1 (job 3) []) }

-- the practice by which a part is passed on that still stands in another cell
abbrev pub passed_at_once : Plant → Practice
passed_at_once plant state (pass_on job branch) = where_arrived plant state job (λ part. after_above plant state (Move job branch))
passed_at_once plant state step = step_outcome plant state step

-- part 1 is back in I, where it stands already as the part of its first visit
abbrev pub back_at_once : Trial
back_at_once = record {
  plant = small_plant;
  practice = passed_at_once small_plant;
  steps =
      load (job 1) (kind 2)
      ∷ goes_through 0 (job 1) (pass_on (job 1) 0 ∷ goes_through 1 (job 1) (pass_on (job 1) 0 ∷ clear 1 (job 1) ∷ fill_j []));
}

-- the practice by which a job is loaded that still stands in a cell
abbrev pub loaded_at_once : Plant → Practice
loaded_at_once plant state (load job kind) = after_above plant state (Load job kind)
loaded_at_once plant state step = step_outcome plant state step

-- part 1 has left the plant and stands at the exit of I; another part 1 is to enter I
abbrev pub again_at_once : Trial
again_at_once = record {
  plant = small_plant;
  practice = loaded_at_once small_plant;
  steps =
      load (job 1) (kind 1)
      ∷ goes_through 1 (job 1) (
      pass_on (job 1) 0 ∷ goes_through 0 (job 1) (
      clear 1 (job 1) ∷ let_out (job 1) ∷ load (job 1) (kind 0) ∷ load (job 2) (kind 1) ∷ goes_through 1 (job 2) []
      )
      );
}
