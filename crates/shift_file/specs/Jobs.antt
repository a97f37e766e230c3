-- A session of a job: it loads, moves by the branches that its path names, or by the first ones, and unloads.
use Rattle.std.specs.Prelude.{codes, ℕ, ◌-◌, if◌then◌else◌, List, [], ◌∷◌, length, Option, Some, None, Result, Ok, Err}
use Rattle.cell_base.specs.Faults.{◌>>=◌}
use Rattle.cell_base.specs.Named.{type_names}
use Rattle.cell_base.specs.declared.cells.Cell.{Cell}
use Rattle.cell_base.specs.declared.limits.TheConstants.{MAX_PLACES, MAX_BRANCHES}
use Rattle.cell_base.specs.declared.places.Field.TheVariants.{Whole, Job, Kind, Path}
use Rattle.toml.specs.Data.{Data, Items, Members, get_member}
use Rattle.toml_walk.specs.Documents.{each, only, number_of, number_at, array_of, at_most}
use Rattle.shift_file.specs.declared.faults.ShiftFault.{ShiftFault}
use Rattle.shift_file.specs.declared.faults.ShiftFault.TheVariants.{BadNumber}
use Rattle.shift_file.specs.declared.sessions.Session.{Session}
use Rattle.shift_file.specs.declared.sessions.Session.TheVariants.{OfJob}
use Rattle.shift_file.specs.Faults.{looked, of_session, in_session}
use Rattle.shift_file.specs.Names.{named_at}
use Rattle.shift_file.specs.Paths.{first_stage, lead_out, first_branches}

-- the branch after these in session k
abbrev pub next_branch : ℕ → List ℕ → Data → Result ℕ ShiftFault
next_branch k earlier d = looked (number_of (in_session k Path (length earlier)) 0 (MAX_BRANCHES - 1) d)

-- branches from the first stage of a type to a last one
unfoldable pub branches_in : Cell → ℕ → ℕ → Items → Result (List ℕ) ShiftFault
branches_in cell k kind ds = do
  items ← looked (at_most (of_session k Path) (MAX_PLACES - 1) ds)
  branches ← each (next_branch k) [] items
  if lead_out cell (first_stage kind) branches then Ok branches else Err (BadNumber (of_session k Path))

-- those of the path, and without one the first branches
unfoldable pub branches_of : Cell → ℕ → ℕ → Option Data → Result (List ℕ) ShiftFault
branches_of cell k kind None = Ok (first_branches cell kind)
branches_of cell k kind (Some d) = looked (array_of (of_session k Path) d) >>= branches_in cell k kind

-- the keys of a session of a job
abbrev pub job_keys : List (List ℕ)
job_keys = codes "job" ∷ codes "type" ∷ codes "path" ∷ []

-- session k of a job
unfoldable pub job_session : Cell → ℕ → Members → Result Session ShiftFault
job_session cell k ms = do
  table ← looked (only (of_session k Whole) job_keys ms)
  job ← looked (number_at (of_session k Job) 0 4294967295 (codes "job") table)
  kind ← named_at (of_session k Kind) (type_names cell.types) (codes "type") table
  branches ← branches_of cell k kind (get_member (codes "path") table)
  Ok (OfJob (record { 0 = job }) (record { 0 = kind }) branches)
