-- The successors of the places of a route, as a cell file gives them.
use Rattle.std.specs.Prelude.{ℕ, ◌+◌, ◌-◌, Bool, ◌==◌, if◌then◌else◌, List, [], ◌∷◌, length, Option, Some, None, is_some, Result, Ok, Err}
use Rattle.cell_base.specs.Faults.{◌>>=◌}
use Rattle.cell_base.specs.Successors.{default_next}
use Rattle.cell_base.specs.declared.limits.TheConstants.{MAX_BRANCHES}
use Rattle.cell_base.specs.declared.places.Place.{Place}
use Rattle.cell_base.specs.declared.places.Field.TheVariants.{Next}
use Rattle.toml.specs.Data.{Data, Items, as_integer}
use Rattle.toml_walk.specs.Widths.{item_count}
use Rattle.toml_walk.specs.Documents.{all_items, each, array_of, number_of, at_most}
use Rattle.cell_file.specs.declared.faults.CellFault.{CellFault}
use Rattle.cell_file.specs.declared.faults.CellFault.TheVariants.{WrongKind, BadNumber}
use Rattle.cell_file.specs.Faults.{looked, of_job_type, in_job_type}

-- the last of the numbers, or the place itself where there is none
abbrev pub last_or : ℕ → List ℕ → ℕ
last_or place [] = place
last_or place (n ∷ ns) = last_or n ns

-- the element is an integer, of whatever size
abbrev pub is_integer : Data → Bool
is_integer d = is_some (as_integer d)

-- the successor after these: an integer greater than the one before it, or than the place, and below the route's length
abbrev pub next_successor : Place → ℕ → ℕ → List ℕ → Data → Result ℕ CellFault
next_successor at k places earlier d = looked (number_of at (last_or k earlier + 1) (places - 1) d)

-- the successors of place k of a route: not too many, and integers all
unfoldable pub successors_in : Place → ℕ → ℕ → Items → Result (List ℕ) CellFault
successors_in at k places ds = do
  items ← looked (at_most at MAX_BRANCHES ds)
  if all_items is_integer items then each (next_successor at k places) [] items else Err (WrongKind at)

-- those that an element of `next` gives
unfoldable pub successors_of : Place → ℕ → ℕ → Data → Result (List ℕ) CellFault
successors_of at k places d = looked (array_of at d) >>= successors_in at k places

-- the successors of the place after these
abbrev pub next_place : ℕ → ℕ → List (List ℕ) → Data → Result (List ℕ) CellFault
next_place i places earlier d = successors_of (in_job_type i Next (length earlier)) (length earlier) places d

-- the successors of each place of the route of type i
unfoldable pub next_in : ℕ → ℕ → Items → Result (List (List ℕ)) CellFault
next_in i places ds =
    if item_count ds == places then each (next_place i places) [] ds else Err (BadNumber (of_job_type i Next))

-- those of the file, and without them the place after each place but the last
unfoldable pub next_read : ℕ → ℕ → Option Data → Result (List (List ℕ)) CellFault
next_read i places None = Ok (default_next places)
next_read i places (Some d) = looked (array_of (of_job_type i Next) d) >>= next_in i places
