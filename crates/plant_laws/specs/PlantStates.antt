-- The states of a plant.
use Rattle.std.specs.Prelude.{◌≡◌, ℕ, ◌+◌, ◌≤◌, ◌==◌, Bool, true, false, not, ◌&&◌, ◌||◌, ◌⊎◌, Option, List, [], ◌∷◌, ◌++◌, length}
use Rattle.std.specs.List.{All, Contains, find, count_by, list_all, range_with_len}
use Rattle.std.specs.Option.{option_map_or}
use Rattle.cell_base.specs.declared.requests.JobId.{JobId}
use Rattle.cell_base.specs.declared.requests.Part.{Part}
use Rattle.cell_base.specs.Stages.{stage_of, capacity_of}
use Rattle.cell_base.specs.Policy.{IsAdmitted, is_loaded}
use Rattle.cell_base.specs.Outcomes.{part_of}
use Rattle.plant_laws.specs.declared.plants.Plant.{Plant}
use Rattle.plant_laws.specs.Plants.{IsCell, cell_at, cell_of, belongs_to, visit_at, is_at_exit}

-- the parts of the plant, in the order in which they were granted their present places, and those of each cell by its number. The queue
-- and what is left to hand over is known from these
pub record PlantState : Type 0 where
  pub above : List Part
  pub below : ℕ → List Part

-- the plant with no part
abbrev pub no_parts : PlantState
no_parts = record { above = []; below = λ c. [] }

-- the job of a part stands in a cell
abbrev pub stands_in : PlantState → ℕ → Part → Bool
stands_in state c part = is_loaded (state.below c) part.job

-- a part of the plant is queued where its job does not stand in the cell where it belongs: it was not loaded there yet
abbrev pub is_queued : Plant → PlantState → Part → Bool
is_queued plant state part = not (stands_in state (cell_of plant part) part)

-- the first of the queue: the queued part that was granted its place first
abbrev pub next_queued : Plant → PlantState → Option Part
next_queued plant state = find (is_queued plant state) state.above

-- the first of the queue of a cell
abbrev pub first_queued : Plant → PlantState → ℕ → Option Part
first_queued plant state c = find (λ part. belongs_to plant c part && is_queued plant state part) state.above

-- a part of a cell stands done at the exit, as the part of a visit
abbrev pub ends_visit : Plant → Part → Part → Bool
ends_visit plant part q = is_at_exit (cell_at plant (cell_of plant part)) q && (q.kind.0 == (visit_at plant (stage_of part)).0)

-- a part of the plant has come to the exit of the cell where it belongs
abbrev pub has_arrived : Plant → PlantState → Part → Bool
has_arrived plant state part = option_map_or (ends_visit plant part) (part_of (state.below (cell_of plant part)) part.job) false

-- a job stands in no cell
abbrev pub stands_nowhere : Plant → PlantState → JobId → Bool
stands_nowhere plant state job = list_all (λ c. not (is_loaded (state.below c) job)) (range_with_len 0 (length plant.cells))

-- a part of the plant stands in no other cell than that where it belongs
abbrev pub stands_once : Plant → PlantState → Part → Bool
stands_once plant state part =
    list_all (λ c. (c == cell_of plant part) || not (stands_in state c part)) (range_with_len 0 (length plant.cells))

-- a cell has nothing more to do with a job: it left the plant, or its part stands in another cell where it belongs
abbrev pub is_over : Plant → PlantState → ℕ → JobId → Bool
is_over plant state c job =
    option_map_or (λ part. not (belongs_to plant c part) && not (is_queued plant state part)) (part_of state.above job) true

-- each job that stands in a cell is of a part that belongs there, or that is queued for another cell
abbrev pub IsTidy : Plant → PlantState → Type 0
IsTidy plant state =
    (c : ℕ) → IsCell plant c → (job : JobId) → is_loaded (state.below c) job ≡ true → is_over plant state c job ≡ false

-- a part q of cell c, by the parts of the plant: where the plant has it there it is of the type of that visit, and where not it stands at
-- the exit
pub record IsHeld (plant : Plant) (above : List Part) (c : ℕ) (q : Part) : Type 0 where
  pub visit : (part : Part) → Contains above part → part.job ≡ q.job → cell_of plant part ≡ c → q.kind ≡ visit_at plant (stage_of part)
  pub stands : ((part : Part) × Contains above part × (part.job ≡ q.job) × (cell_of plant part ≡ c))
      ⊎ (is_at_exit (cell_at plant c) q ≡ true)

-- the cell of a queued part had room for it when it was granted: what belongs there of the parts before it, the part itself, and what
-- stands there of the parts after it all belonged there after that grant
abbrev pub HasRoom : Plant → PlantState → List Part → Part → List Part → Type 0
HasRoom plant state before part later =
    count_by (belongs_to plant (cell_of plant part)) before + 1 + count_by (stands_in state (cell_of plant part)) later
    ≤ capacity_of plant.above (cell_of plant part)

-- a state of a plant: the policy admits each controller's state; parts of the plant are done; each part of a cell is held by the plant; and
-- there was room for each queued part
pub record IsPlantState (plant : Plant) (state : PlantState) : Type 0 where
  pub above : IsAdmitted plant.above state.above
  pub done : All (λ (part : Part). part.done ≡ true) state.above
  pub below : (c : ℕ) → IsCell plant c → IsAdmitted (cell_at plant c) (state.below c)
  pub held : (c : ℕ) → IsCell plant c → (q : Part) → Contains (state.below c) q → IsHeld plant state.above c q
  pub room : (before later : List Part) (part : Part) → state.above ≡ before ++ part ∷ later → is_queued plant state part ≡ true
      → HasRoom plant state before part later

-- nothing is left in the plant
pub record IsEmptied (plant : Plant) (state : PlantState) : Type 0 where
  pub above : state.above ≡ []
  pub below : (c : ℕ) → IsCell plant c → state.below c ≡ []
