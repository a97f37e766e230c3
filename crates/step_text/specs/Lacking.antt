-- What a text lacks to be the text of a step: a resource of the cell, or a type, of a name.
use Rattle.std.specs.Prelude.{◌≡◌, ◌≢◌, ℕ, ◌^◌, ◌<◌, ◌⊎◌, List, [], ◌∷◌, ◌++◌, length}
use Rattle.std.specs.List.{All}
use Rattle.cell_base.specs.declared.cells.Cell.{Cell}
use Rattle.cell_base.specs.declared.cells.Resource.{Resource}
use Rattle.cell_base.specs.declared.cells.JobType.{JobType}
use Rattle.cell_base.specs.declared.requests.JobId.{JobId}
use Rattle.cell_base.specs.declared.requests.Request.TheVariants.{Load, Process}
use Rattle.cell_base.specs.Named.{resource_names, type_names}
use Rattle.cell_base.specs.Names.{IsName}
use Rattle.step_text.specs.Steps.{step_text}

-- the cell with one resource more, of this name
abbrev pub with_resource : Cell → List ℕ → Cell
with_resource cell name =
    let added : Resource = record { name = name; capacity = 1; order = 0 } in record cell { resources = cell.resources ++ added ∷ [] }

-- the cell with one type more, of this name
abbrev pub with_type : Cell → List ℕ → Cell
with_type cell name =
    let added : JobType = record { name = name; route = []; next = [] } in record cell { types = cell.types ++ added ∷ [] }

-- none of these names is this one
abbrev pub IsFreeName : List ℕ → List (List ℕ) → Type 0
IsFreeName name names = All (λ other. other ≢ name) names

-- the name is new among the resources, and with a resource of it the text asks for the work there
pub record LacksResource (cell : Cell) (text name : List ℕ) : Type 0 where
  pub spelled : IsName name
  pub new : IsFreeName name (resource_names cell.resources)
  pub step : step_text (with_resource cell name) (Process (record { 0 = length cell.resources })) ≡ text

-- the name is new among the types, and with a type of it the text asks for a load of that type
pub record LacksType (cell : Cell) (text name : List ℕ) (job : JobId) : Type 0 where
  pub spelled : IsName name
  pub new : IsFreeName name (type_names cell.types)
  pub job_fits : job.0 < 2 ^ 32
  pub step : step_text (with_type cell name) (Load job (record { 0 = length cell.types })) ≡ text

-- the text is no step of the cell for want of one name, and is the text of a step where that name is added
abbrev pub LacksName : Cell → List ℕ → Type 0
LacksName cell text = ((name : List ℕ) × LacksResource cell text name) ⊎ ((name : List ℕ) × ((job : JobId) × LacksType cell text name job))
