-- Grants that were replayed as they were read.
use Rattle.std.specs.Prelude.{◌≡◌, ℕ, Option, None, List, []}
use Rattle.cell_base.specs.declared.shifts.Grant.{Grant}
use Rattle.cell_base.specs.Histories.{replay}
use Rattle.admission_core.specs.CoreState.{CoreState}
use Rattle.journal_format.specs.Replayed.{first_stray}

-- a core of the same cell; where the first of the grants strays, whose gates stand from an offset on; and where none strays, the core
-- stands after them
pub record HasReplayed (start : CoreState) (first : ℕ) (grants : List Grant) (now : CoreState) (stray : Option ℕ) : Type 0 where
  pub cell : now.cell ≡ start.cell
  pub strays : first_stray start.cell [] first grants ≡ stray
  pub state : stray ≡ None → now.parts ≡ replay start.cell grants
