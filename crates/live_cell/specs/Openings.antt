-- What the opening of a live cell answers.
use Rattle.std.specs.Prelude.{◌≡◌, ℕ, ◌≤◌, Option, IfSome, Result, Ok, Err, List, length, ⊤}
use Rattle.cell_base.specs.declared.cells.Cell.{Cell}
use Rattle.cell_base.specs.declared.shifts.Grant.{Grant}
use Rattle.outside_io.specs.Disk.{Turns, LeavesOnly}
use Rattle.move_journal.specs.Disks.{Shows}
use Rattle.journal_format.specs.Journals.{StandsFor}
use Rattle.shift_recovery.specs.declared.open_error.OpenError.{OpenError}
use Rattle.shift_recovery.specs.Opening.{IsOutside, IsRefusalOf}
use Rattle.journal_format.specs.Reads.{OnlyReads}
use Rattle.journal_format.specs.Replayed.{AreDue, opened_as}
use Rattle.live_cell.specs.declared.opening.OpenedLive.{OpenedLive}
use Rattle.live_cell.specs.LiveState.{LiveState, fresh}

-- The disk was only read until it was found. At each moment since then each image stands for the grants that were found, as do the disk
-- itself and each image now.
pub record IsOpened {D : Type 0} (reads_as : D → Option (List ℕ)) (may_leave : D → List ℕ → Type 0) (moment : D → ℕ)
    (left_since : D → ℕ → List ℕ → Type 0) (old : D) (text : List ℕ) (grants : List Grant) (new : D) : Type 0 where
  pub found : D
  pub read : OnlyReads reads_as may_leave moment left_since old found
  pub tells : Turns (reads_as old) (reads_as new) (λ _ _. ⊤)
  pub stands : Shows reads_as may_leave new (λ file. StandsFor file text grants)
  pub any_moment : IfSome (reads_as old) (λ _. LeavesOnly moment left_since found new (λ file. StandsFor file text grants))

-- The cell is new after these grants: they are due and few, they were taken, the bytes open as them, and the disk stands for them.
pub record IsLiveAfter {D K : Type 0} (reads_as : D → Option (List ℕ)) (may_leave : D → List ℕ → Type 0) (moment : D → ℕ)
    (left_since : D → ℕ → List ℕ → Type 0) (cell : Cell) (text : List ℕ) (room most : ℕ) (visited : K → ℕ → List Grant → K → Type 0)
    (disk : D) (old : K) (grants : List Grant) (live : LiveState D) (new : K) : Type 0 where
  pub state : live ≡ fresh cell live.disk grants room most
  pub due : AreDue cell grants
  pub few : length grants ≤ room
  pub taken : (first : ℕ) × visited old first grants new
  pub exact : IfSome (reads_as disk) (λ file. opened_as cell file text room ≡ Ok grants)
  pub stands : IsOpened reads_as may_leave moment left_since disk text grants live.disk

-- a cell is opened after some grants, or refused as the bytes say
abbrev pub IsOpenedAs : {D K : Type 0} → (D → Option (List ℕ)) → (D → List ℕ → Type 0) → (D → ℕ) → (D → ℕ → List ℕ → Type 0)
    → Cell → List ℕ → ℕ → ℕ → (K → ℕ → List Grant → K → Type 0) → D → K → Result (OpenedLive D K) (OpenError D) → Type 0
IsOpenedAs reads_as may_leave moment left_since cell text room most visited disk old (Ok opened) =
    (grants : List Grant)
    × IsLiveAfter reads_as may_leave moment left_since cell text room most visited disk old grants opened.live opened.kept
IsOpenedAs reads_as may_leave moment left_since cell text room most visited disk old (Err error) =
    IsRefusalOf (reads_as disk) (λ file. opened_as cell file text room) error.why

-- what is opened stands after these grants, and the disk is not refused
abbrev pub IsFound : {D K : Type 0} → (D → Option (List ℕ)) → (D → List ℕ → Type 0) → (D → ℕ) → (D → ℕ → List ℕ → Type 0)
    → Cell → List ℕ → ℕ → ℕ → (K → ℕ → List Grant → K → Type 0) → D → K → List Grant → Result (OpenedLive D K) (OpenError D) → Type 0
IsFound reads_as may_leave moment left_since cell text room most visited disk old grants (Ok opened) =
    IsLiveAfter reads_as may_leave moment left_since cell text room most visited disk old grants opened.live opened.kept
IsFound reads_as may_leave moment left_since cell text room most visited disk old grants (Err error) = IsOutside error.why

-- the disk of what is opened
abbrev pub disk_live : {D K : Type 0} → OpenedLive D K → D
disk_live opened = opened.live.disk
