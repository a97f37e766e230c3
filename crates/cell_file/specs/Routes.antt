-- The route of a type: each text is the name of a resource, with `:hold` where no work is done.
use Rattle.std.specs.Prelude.{codes, ℕ, ◌-◌, Bool, not, if◌then◌else◌, List, [], length, take, drop, position, Result, Ok}
use Rattle.std.specs.Str.{bytes_eq}
use Rattle.cell_base.specs.Faults.{◌>>=◌, or_fault}
use Rattle.cell_base.specs.Names.{name_of}
use Rattle.cell_base.specs.declared.cells.Step.{Step}
use Rattle.cell_base.specs.declared.places.Place.{Place}
use Rattle.cell_base.specs.declared.places.Field.TheVariants.{Route}
use Rattle.toml.specs.Data.{Data, Items}
use Rattle.toml_walk.specs.Documents.{each, string_of}
use Rattle.cell_file.specs.declared.faults.CellFault.{CellFault}
use Rattle.cell_file.specs.declared.faults.CellFault.TheVariants.{BadName, UnknownName}
use Rattle.cell_file.specs.Faults.{looked, in_job_type}

-- the end of the text of a step that does not work
abbrev pub hold : List ℕ
hold = codes ":hold"

-- the text has that end
abbrev pub is_hold : List ℕ → Bool
is_hold text = bytes_eq (drop (length text - 5) text) hold

-- the text before it, or all of the text
abbrev pub resource_part : List ℕ → List ℕ
resource_part text = if is_hold text then take (length text - 5) text else text

-- the step that a text of a route is, where the resources have these names
unfoldable pub step_of_text : Place → List (List ℕ) → List ℕ → Result Step CellFault
step_of_text place names text = do
  name ← or_fault (name_of (resource_part text)) (BadName place)
  number ← or_fault (position (bytes_eq name) names) (UnknownName place)
  Ok (record { on = record { 0 = number }; works = not (is_hold text) })

-- the step that a string of a route is
unfoldable pub step_read : Place → List (List ℕ) → Data → Result Step CellFault
step_read place names d = looked (string_of place d) >>= step_of_text place names

-- the step after these in the route of type i
abbrev pub next_step : ℕ → List (List ℕ) → List Step → Data → Result Step CellFault
next_step i names earlier d = step_read (in_job_type i Route (length earlier)) names d

-- each element in turn gives a step
abbrev pub route_read : ℕ → List (List ℕ) → Items → Result (List Step) CellFault
route_read i names ds = each (next_step i names) [] ds
