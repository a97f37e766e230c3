-- Plants: cells under one more cell, whose resources they are.
use Rattle.std.specs.Prelude.{◌≡◌, ◌≢◌, ℕ, ◌<◌, ◌≤◌, ◌==◌, ⊤, Bool, true, false, ◌&&◌, List, [], length, slice_get, unwrap_or}
use Rattle.std.specs.List.{Contains}
use Rattle.std.specs.Option.{option_map_or}
use Rattle.cell_base.specs.declared.cells.Cell.{Cell}
use Rattle.cell_base.specs.declared.cells.TypeId.{TypeId}
use Rattle.cell_base.specs.declared.requests.Part.{Part}
use Rattle.cell_base.specs.Stages.{Stage, IsStage, stage_of, successors, resource_at, capacity_of, works_at, is_last}
use Rattle.cell_base.specs.Fits.{CellFits}
use Rattle.plant_laws.specs.declared.plants.Plant.{Plant}
use Rattle.plant_laws.specs.declared.plants.PlantCell.{PlantCell}

-- the plant has a cell of this number
abbrev pub IsCell : Plant → ℕ → Type 0
IsCell plant c = c < length plant.cells

-- the cell of a number; one without resources and types where there is none
abbrev pub cell_at : Plant → ℕ → Cell
cell_at plant c = option_map_or (λ (x : PlantCell). x.cell) (slice_get plant.cells c) (record { resources = []; types = [] })

-- the exit of a cell, a number of a resource of it
abbrev pub exit_of : Plant → ℕ → ℕ
exit_of plant c = option_map_or (λ (x : PlantCell). x.exit.0) (slice_get plant.cells c) 0

-- the cell where a part of the plant belongs
abbrev pub cell_of : Plant → Part → ℕ
cell_of plant part = resource_at plant.above (stage_of part)

-- the same as a test
abbrev pub belongs_to : Plant → ℕ → Part → Bool
belongs_to plant c part = cell_of plant part == c

-- the type that a part at a stage of the plant has in the cell where it belongs
abbrev pub visit_at : Plant → Stage → TypeId
visit_at plant s =
    let none : TypeId = record { 0 = 0 } in
    option_map_or (λ (visits : List TypeId). unwrap_or (slice_get visits s.place) none) (slice_get plant.visits s.kind) none

-- a part stands done where its route ends
abbrev pub is_at_exit : Cell → Part → Bool
is_at_exit cell part = part.done && is_last cell (stage_of part)

-- each route of the cell ends on this resource
abbrev pub EndsAt : Cell → ℕ → Type 0
EndsAt cell exit = (s : Stage) → IsStage cell s → is_last cell s ≡ true → resource_at cell s ≡ exit

-- the rules that the files of a plant keep
pub data Rule : Type 0 where
  routes_end_at_the_exit : Rule
  exit_has_the_units : Rule
  no_cell_follows_on_itself : Rule

-- a plant keeps a rule. Each route of a cell ends at the cell's exit. The plant gives a cell at most as many units as its exit has. The
-- successors of a place of the plant are in other cells
abbrev pub Keeps : Plant → Rule → Type 0
Keeps plant routes_end_at_the_exit = (c : ℕ) → IsCell plant c → EndsAt (cell_at plant c) (exit_of plant c)
Keeps plant exit_has_the_units = (c : ℕ) → IsCell plant c → capacity_of plant.above c ≤ capacity_of (cell_at plant c) (exit_of plant c)
Keeps plant no_cell_follows_on_itself =
    (s t : Stage) → IsStage plant.above s → Contains (successors plant.above s) t → resource_at plant.above s ≢ resource_at plant.above t

-- a plant whose cells fit, each a resource of the plant, and that keeps these rules. A place of the plant does no work
pub record KeepsRules (these : Rule → Type 0) (plant : Plant) : Type 0 where
  pub above : CellFits plant.above
  pub cells : (c : ℕ) → IsCell plant c → CellFits (cell_at plant c)
  pub each : length plant.above.resources ≡ length plant.cells
  pub holds : (s : Stage) → IsStage plant.above s → works_at plant.above s ≡ false
  pub visits : (s : Stage) → IsStage plant.above s → (visit_at plant s).0 < length (cell_at plant (resource_at plant.above s)).types
  pub rules : (rule : Rule) → these rule → Keeps plant rule

-- a plant that keeps all rules
abbrev pub PlantFits : Plant → Type 0
PlantFits = KeepsRules (λ rule. ⊤)

-- a plant that keeps all rules but this
abbrev pub KeepsAllBut : Rule → Plant → Type 0
KeepsAllBut left_out = KeepsRules (λ rule. rule ≢ left_out)
