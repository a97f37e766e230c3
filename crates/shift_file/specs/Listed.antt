-- A session that lists its steps, each as its text.
use Rattle.std.specs.Prelude.{codes, ℕ, List, [], ◌∷◌, length, Result, Ok}
use Rattle.cell_base.specs.Faults.{◌>>=◌}
use Rattle.cell_base.specs.declared.cells.Cell.{Cell}
use Rattle.cell_base.specs.declared.places.Place.{Place}
use Rattle.cell_base.specs.declared.places.Field.TheVariants.{Whole, Steps}
use Rattle.cell_base.specs.declared.requests.Request.{Request}
use Rattle.toml.specs.Data.{Data, Members}
use Rattle.toml_walk.specs.Outcomes.{with_fault}
use Rattle.toml_walk.specs.Documents.{each, only, string_of, array_at, filled}
use Rattle.step_text.specs.Steps.{step_of}
use Rattle.shift_file.specs.declared.faults.ShiftFault.{ShiftFault}
use Rattle.shift_file.specs.declared.sessions.Session.{Session}
use Rattle.shift_file.specs.declared.sessions.Session.TheVariants.{Listed}
use Rattle.shift_file.specs.Faults.{step_fault, looked, of_session, in_session}

-- the step that a string is
unfoldable pub step_at : Cell → Place → Data → Result Request ShiftFault
step_at cell place d = do
  text ← looked (string_of place d)
  with_fault (step_fault place) (step_of cell text)

-- the step after these in session k
abbrev pub next_step : Cell → ℕ → List Request → Data → Result Request ShiftFault
next_step cell k earlier d = step_at cell (in_session k Steps (length earlier)) d

-- session k of listed steps
unfoldable pub listed_session : Cell → ℕ → Members → Result Session ShiftFault
listed_session cell k ms = do
  table ← looked (only (of_session k Whole) (codes "steps" ∷ []) ms)
  array ← looked (array_at (of_session k Steps) (codes "steps") table)
  items ← looked (filled (of_session k Steps) array)
  steps ← each (next_step cell k) [] items
  Ok (Listed steps)
