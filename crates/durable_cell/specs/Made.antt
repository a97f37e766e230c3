-- A recovered disk that is made a journal.
use Rattle.std.specs.Prelude.{◌≡◌, ◌⊎◌, ℕ, false, Option, IfSome, Result, Ok, Err, List, [], length, ⊤}
use Rattle.cell_base.specs.declared.shifts.Grant.{Grant}
use Rattle.outside_io.specs.Causes.{Rose}
use Rattle.outside_io.specs.Disk.{Turns, LeavesOnly}
use Rattle.journal_format.specs.Blanks.{IsBlank}
use Rattle.move_journal.specs.Disks.{Shows}
use Rattle.journal_format.specs.Journals.{StandsFor}
use Rattle.move_journal.specs.Kept.{JournalState}

-- a journal of these grants, for which each image stood since then
pub record IsJournalOf {D : Type 0} (reads_as : D → Option (List ℕ)) (may_leave : D → List ℕ → Type 0) (moment : D → ℕ)
    (left_since : D → ℕ → List ℕ → Type 0) (faults : D → ℕ) (old : D) (text : List ℕ) (grants : List Grant)
    (journal : JournalState D) : Type 0 where
  pub len : journal.len ≡ length grants
  pub runs : journal.is_halted ≡ false
  pub no_fault : faults journal.disk ≡ faults old
  pub tells : Turns (reads_as old) (reads_as journal.disk) (λ _ _. ⊤)
  pub stands : Shows reads_as may_leave journal.disk (λ file. StandsFor file text grants)
  pub any_moment : IfSome (reads_as old) (λ _. LeavesOnly moment left_since old journal.disk (λ file. StandsFor file text grants))

-- The disk was blank, and the device failed in the making of a journal: each image since was one of then or stands for no grants.
pub record IsUnmade {D : Type 0} (reads_as : D → Option (List ℕ)) (may_leave : D → List ℕ → Type 0) (moment : D → ℕ)
    (left_since : D → ℕ → List ℕ → Type 0) (old : D) (text : List ℕ) (new : D) : Type 0 where
  pub blank : IfSome (reads_as old) IsBlank
  pub tells : Turns (reads_as old) (reads_as new) (λ _ _. ⊤)
  pub stands : Shows reads_as may_leave new (λ file. StandsFor file text [])
  pub any_moment : IfSome (reads_as old) (λ _. LeavesOnly moment left_since old new (λ file. may_leave old file ⊎ StandsFor file text []))

-- the journal, or the disk of which none could be made
abbrev pub IsMade : {D : Type 0} → (D → Option (List ℕ)) → (D → List ℕ → Type 0) → (D → ℕ) → (D → ℕ → List ℕ → Type 0) → (D → ℕ)
    → D → List ℕ → List Grant → Result (JournalState D) D → Type 0
IsMade reads_as may_leave moment left_since faults old text grants (Ok journal) =
    IsJournalOf reads_as may_leave moment left_since faults old text grants journal
IsMade reads_as may_leave moment left_since faults old text grants (Err new) =
    IsUnmade reads_as may_leave moment left_since old text new × Rose (faults old) (faults new)
