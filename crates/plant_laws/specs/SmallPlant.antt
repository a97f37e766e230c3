-- The smallest plant in which two parts cross: cell I with one unit and cell J with two. A part of type P goes through I and then J, one of
-- type Q through J and then I, and one of a third type as it is given. Each cell has a machine and an exit.
use Rattle.std.specs.Prelude.{◌≡◌, ℕ, true, false, Some, List, [], ◌∷◌}
use Rattle.std.specs.Option.{option_map}
use Rattle.cell_base.specs.declared.cells.Cell.{Cell}
use Rattle.cell_base.specs.declared.cells.JobType.{JobType}
use Rattle.cell_base.specs.declared.cells.Step.{Step}
use Rattle.cell_base.specs.declared.cells.TypeId.{TypeId}
use Rattle.cell_base.specs.declared.requests.JobId.{JobId}
use Rattle.cell_base.specs.declared.requests.Part.{Part}
use Rattle.plant_laws.specs.declared.plants.Plant.{Plant}
use Rattle.plant_laws.specs.declared.plants.PlantCell.{PlantCell}
use Rattle.plant_laws.specs.PlantStates.{no_parts, first_queued}
use Rattle.plant_laws.specs.PlantSteps.{PlantStep, load, enter, work_in, pass_on, process, move, steps_outcome}

-- a place that works, and one that only holds
abbrev pub work_on : ℕ → Step
work_on r = record { on = record { 0 = r }; works = true }

-- a place that only holds parts
abbrev pub hold_on : ℕ → Step
hold_on r = record { on = record { 0 = r }; works = false }

-- a type of one place
abbrev pub one_place : List ℕ → Step → JobType
one_place name only = record { name = name; route = only ∷ []; next = [] ∷ [] }

-- a type of two places
abbrev pub two_places : List ℕ → Step → Step → JobType
two_places name first last = record { name = name; route = first ∷ last ∷ []; next = (1 ∷ []) ∷ [] ∷ [] }

-- a type of three places
abbrev pub three_places : List ℕ → Step → Step → Step → JobType
three_places name first second last =
    record { name = name; route = first ∷ second ∷ last ∷ []; next = (1 ∷ []) ∷ (2 ∷ []) ∷ [] ∷ [] }

-- the names of the types
abbrev pub name_p : List ℕ
name_p = 80 ∷ []

-- of the second
abbrev pub name_q : List ℕ
name_q = 81 ∷ []

-- of the third
abbrev pub name_r : List ℕ
name_r = 82 ∷ []

-- a cell of resources A, of order 1, and B, of order 2, with these units, and of these types
abbrev pub small_cell : ℕ → ℕ → List JobType → Cell
small_cell units_a units_b types =
    record {
      resources = record { name = 65 ∷ []; capacity = units_a; order = 1 } ∷ record { name = 66 ∷ []; capacity = units_b; order = 2 } ∷ [];
      types = types;
    }

-- a cell below: both types are worked on by machine A and go to exit B, which has so many units
abbrev pub cell_below : ℕ → PlantCell
cell_below units =
    record {
      cell = small_cell 1 units (two_places name_p (work_on 0) (hold_on 1) ∷ two_places name_q (work_on 0) (hold_on 1) ∷ []);
      exit = record { 0 = 1 };
    }

-- a type by its number
abbrev pub kind : ℕ → TypeId
kind n = record { 0 = n }

-- a plant of cell 0, which is I, and this cell 1, which is J, and with this third type
abbrev pub plant_with : PlantCell → JobType → Plant
plant_with cell_j third =
    record {
      above = small_cell 1 2 (two_places name_p (hold_on 0) (hold_on 1) ∷ two_places name_q (hold_on 1) (hold_on 0) ∷ third ∷ []);
      cells = cell_below 1 ∷ cell_j ∷ [];
      visits = (kind 0 ∷ kind 0 ∷ []) ∷ (kind 1 ∷ kind 1 ∷ []) ∷ (kind 0 ∷ kind 1 ∷ kind 1 ∷ []) ∷ [];
    }

-- a part of the third type goes through I, J and I again
abbrev pub there_and_back : JobType
there_and_back = three_places name_r (hold_on 0) (hold_on 1) (hold_on 0)

-- the plant: the exit of J has as many units as the plant gives J
abbrev pub small_plant : Plant
small_plant = plant_with (cell_below 2) there_and_back

-- a job by its number
abbrev pub job : ℕ → JobId
job n = record { 0 = n }

-- the first of the queue of cell c enters it, is worked on, and goes to the exit
abbrev pub goes_through : ℕ → JobId → List PlantStep → List PlantStep
goes_through c of later = enter c ∷ work_in c (process (record { 0 = 0 })) ∷ work_in c (move of 0) ∷ later

-- part 1 comes to the exit of I and part 2 to that of J. The plant grants both to pass on to the other cell, and then to load part 3 for J
abbrev pub crossing : List PlantStep → List PlantStep
crossing later =
    load (job 1) (kind 0)
    ∷ goes_through 0 (job 1) (
    load (job 2) (kind 1) ∷ goes_through 1 (job 2) (pass_on (job 1) 0 ∷ pass_on (job 2) 0 ∷ load (job 3) (kind 1) ∷ later)
    )

-- all of this is granted, and then part 1 is the first for J, before part 3
abbrev pub CrossingRow : Type 0
CrossingRow =
    let waiting : Part = record { job = job 1; kind = kind 0; place = 1; done = true } in
    option_map (λ state. first_queued small_plant state 1) (steps_outcome small_plant no_parts (crossing [])) ≡ Some (Some waiting)
