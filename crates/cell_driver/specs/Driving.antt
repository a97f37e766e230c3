-- What comes of a command on a cell.
use Rattle.std.specs.Prelude.{◌≡◌, ℕ, List, Result, Err}
use Rattle.cell_base.specs.declared.shifts.Grant.{Grant}
use Rattle.cell_walks.specs.Allowed.{IsAllowed}
use Rattle.cell_walks.specs.DiskTold.{DiskTold, IsUntouched}
use Rattle.cell_walks.specs.Observed.{FilesTold, observed}
use Rattle.cell_walks.specs.Outcomes.{Outcome, or_early}
use Rattle.cell_walks.specs.Walks.{Tests, Walk}
use Rattle.cell_walks.specs.declared.early_end.EarlyEnd.{EarlyEnd}
use Rattle.cell_walks.specs.declared.early_end.EarlyEnd.TheVariants.{WantOfMemory}
use Rattle.cell_texts.specs.Tests.{KnownCell, cell_file}

-- a walk that begins with this cell file
abbrev pub on_cell : List ℕ → (KnownCell → Walk) → Walk
on_cell cell onward = Tests (cell_file cell) onward

-- an outcome that adds these grants to its journal
abbrev pub adding : Outcome → List Grant → List Grant → Outcome
adding outcome added unsure = record outcome { added = added; unsure = unsure }

-- the walk allows what was made; or with grants that the answer doesn't tell; or memory was wanting before anything was done to the disk
pub data IsMade {A : Type 0} (files : FilesTold) (disk : DiskTold) (walk : Walk) (outcome : A → Outcome)
    (made : Result A EarlyEnd) : Type 0 where
  Allowed : IsAllowed (observed files disk) walk (or_early outcome made) → IsMade files disk walk outcome made
  Adding : (added unsure : List Grant) → IsAllowed (observed files disk) walk (adding (or_early outcome made) added unsure)
      → IsMade files disk walk outcome made
  Starved : made ≡ Err WantOfMemory → IsUntouched disk → IsMade files disk walk outcome made
