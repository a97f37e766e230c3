-- A type of a cell file: its keys, its members in the order in which they are read, and the types after one another.
use Rattle.std.specs.Prelude.{codes, ℕ, ◌==◌, if◌then◌else◌, List, [], ◌∷◌, length, Result, Ok}
use Rattle.cell_base.specs.Faults.{◌>>=◌}
use Rattle.cell_base.specs.Named.{type_names}
use Rattle.cell_base.specs.declared.cells.JobType.{JobType}
use Rattle.cell_base.specs.declared.limits.TheConstants.{MAX_PLACES}
use Rattle.cell_base.specs.declared.places.Field.TheVariants.{Whole, Name, Route}
use Rattle.toml.specs.Data.{Data, Items, Members, get_member}
use Rattle.toml_walk.specs.Documents.{each, table_of, only, filled_array_at}
use Rattle.cell_file.specs.declared.faults.CellFault.{CellFault}
use Rattle.cell_file.specs.Faults.{looked, of_job_type}
use Rattle.cell_file.specs.Names.{fresh_name}
use Rattle.cell_file.specs.Routes.{route_read}
use Rattle.cell_file.specs.Successors.{next_read}

-- only version 2 has successors
abbrev pub job_type_keys : ℕ → List (List ℕ)
job_type_keys version =
    if version == 2 then codes "name" ∷ codes "route" ∷ codes "next" ∷ [] else codes "name" ∷ codes "route" ∷ []

-- the members of type i, where the resources have these names, after types of these names
unfoldable pub job_type_of_members : ℕ → List (List ℕ) → List (List ℕ) → Members → Result JobType CellFault
job_type_of_members i resources earlier ms = do
  name ← fresh_name (of_job_type i Name) earlier ms
  steps ← looked (filled_array_at (of_job_type i Route) MAX_PLACES (codes "route") ms)
  route ← route_read i resources steps
  next ← next_read i (length route) (get_member (codes "next") ms)
  Ok (record { name = name; route = route; next = next })

-- type i, as an element gives it
unfoldable pub job_type_of : ℕ → ℕ → List (List ℕ) → List (List ℕ) → Data → Result JobType CellFault
job_type_of version i resources earlier d = do
  ms ← looked (table_of (of_job_type i Whole) d)
  table ← looked (only (of_job_type i Whole) (job_type_keys version) ms)
  job_type_of_members i resources earlier table

-- the type after these
abbrev pub next_job_type : ℕ → List (List ℕ) → List JobType → Data → Result JobType CellFault
next_job_type version resources earlier d = job_type_of version (length earlier) resources (type_names earlier) d

-- each element in turn gives a type
abbrev pub job_types_of : ℕ → List (List ℕ) → Items → Result (List JobType) CellFault
job_types_of version resources ds = each (next_job_type version resources) [] ds
