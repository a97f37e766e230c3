-- What a recovered disk holds, and the core after its grants.
use Rattle.std.specs.Prelude.{◌≡◌, ℕ, ◌≤◌, false, Option, List, [], length}
use Rattle.cell_base.specs.declared.cells.Cell.{Cell}
use Rattle.cell_base.specs.declared.shifts.Grant.{Grant}
use Rattle.cell_base.specs.Histories.{replay}
use Rattle.admission_core.specs.CoreState.{CoreState}
use Rattle.journal_format.specs.Blanks.{IsBlank}
use Rattle.move_journal.specs.Disks.{Rests}
use Rattle.journal_format.specs.Journals.{IsJournal}
use Rattle.durable_cell.specs.declared.stored.Stored.{Stored}
use Rattle.durable_cell.specs.declared.stored.Stored.TheVariants as stored
use Rattle.journal_format.specs.Replayed.{AreDue}

-- the disk, with a journal or without
abbrev pub disk_stored : {D : Type 0} → Stored D → D
disk_stored (stored.Nothing blank) = blank
disk_stored (stored.Journal journal) = journal.disk

-- the core stands after the grants: they fit the cell, each is granted in its turn, and there is room for them
pub record IsCore (cell : Cell) (room : ℕ) (core : CoreState) (grants : List Grant) : Type 0 where
  pub state : core ≡ record { cell = cell; parts = replay cell grants }
  pub due : AreDue cell grants
  pub few : length grants ≤ room

-- nothing and no grants, or a journal of the grants on which the disk rests, where it tells
abbrev pub IsStored : {D : Type 0} → (D → Option (List ℕ)) → (D → List ℕ → Type 0) → List ℕ → List Grant → Stored D → Type 0
IsStored reads_as may_leave text grants (stored.Nothing blank) = (grants ≡ []) × Rests reads_as may_leave blank IsBlank
IsStored reads_as may_leave text grants (stored.Journal journal) =
    (journal.len ≡ length grants) × (journal.is_halted ≡ false) × Rests reads_as may_leave journal.disk (λ file. IsJournal file text grants)
