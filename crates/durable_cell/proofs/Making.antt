-- A blank disk that is made a journal.
use Rattle.std.specs.Prelude.{Option, IfSome, false, Result, Ok, Err, IfOk, IfErr}
use Rattle.std.proofs.Common.{◌≡◌, ◌⊎◌, inl, inr, ℕ, List, [], refl, sym, ◌∙◌, subst}
use Rattle.cell_base.specs.declared.shifts.Grant.{Grant}
use Rattle.outside_io.specs.Causes.{Rose}
use Rattle.outside_io.specs.Disk.{Turns, LeavesOnly}
use Rattle.outside_io.specs.Moments.{widened, followed}
use Rattle.outside_io.specs.Telling.{where_told, told, turned}
use Rattle.journal_format.specs.Blanks.{IsBlank}
use Rattle.move_journal.specs.Disks.{Shows}
use Rattle.journal_format.specs.Journals.{StandsFor, IsJournal}
use Rattle.move_journal.specs.Kept.{JournalState, disk_made}
use Rattle.durable_cell.specs.Made.{IsMade}
use Rattle.durable_cell.proofs.Moving.{turns_on}

module _ {D : Type 0} (reads_as : D → Option (List ℕ)) (may_leave : D → List ℕ → Type 0) (moment : D → ℕ)
    (left_since : D → ℕ → List ℕ → Type 0) (faults : D → ℕ) where
  -- the clauses of the clearing of a disk
  pub record Clears (blank cleared : D) : Type 0 where
    pub was_blank : IfSome (reads_as blank) IsBlank
    pub tells : Turns (reads_as blank) (reads_as cleared) (λ _ _. Unit {0})
    pub any_moment : IfSome (reads_as blank) (λ _. LeavesOnly moment left_since blank cleared IsBlank)
    pub cause : faults cleared ≡ faults blank

  -- the clauses of the making of a journal on it
  pub record Creates (cleared : D) (text : List ℕ) (made : Result (JournalState D) D) : Type 0 where
    pub empty : IfOk made (λ journal. journal.len ≡ 0)
    pub runs : IfOk made (λ journal. journal.is_halted ≡ false)
    pub no_fault : IfOk made (λ journal. faults journal.disk ≡ faults cleared)
    pub device : IfErr made (λ disk. Rose (faults cleared) (faults disk))
    pub stored : IfOk made (λ journal. Shows reads_as may_leave journal.disk (λ file. IsJournal file text []))
    pub kept : IfErr made (λ disk. Shows reads_as may_leave disk (λ file. StandsFor file text []))
    pub tells : Turns (reads_as cleared) (reads_as (disk_made made)) (λ _ _. Unit {0})
    pub any_moment : IfSome (reads_as cleared) (λ _. LeavesOnly moment left_since cleared (disk_made made) (λ file. StandsFor file text []))

  -- each image of both stands for no grants
  moments_made : (blank cleared : D) (text : List ℕ) (made : Result (JournalState D) D) → Clears blank cleared → Creates cleared text made
      → IfSome (reads_as blank) (λ _. LeavesOnly moment left_since blank (disk_made made) (λ file. StandsFor file text []))
  moments_made blank cleared text made clears creates = where_told (reads_as blank)
      (λ _. LeavesOnly moment left_since blank (disk_made made) Empty) (λ file is.
      let mid = turned (reads_as blank) (reads_as cleared) _ file is clears.tells in
      followed moment left_since blank cleared (disk_made made) Empty
      (widened moment left_since blank cleared _ Empty (told _ _ file is clears.any_moment) (λ c is_blank. inl (is_blank, refl)))
      (told _ _ mid.0 mid.1 creates.any_moment))
    where
      Empty : List ℕ → Type 0
      Empty file = StandsFor file text []

  made_none : (blank cleared : D) (text : List ℕ) (made : Result (JournalState D) D) → Clears blank cleared → Creates cleared text made
      → IsMade reads_as may_leave moment left_since faults blank text [] made
  made_none blank cleared text (Ok journal) clears creates = record {
    len = creates.empty;
    runs = creates.runs;
    no_fault = creates.no_fault ∙ clears.cause;
    tells = turns_on (reads_as blank) (reads_as cleared) (reads_as journal.disk) clears.tells creates.tells;
    stands = where_told (reads_as journal.disk) (λ file. Empty file × ((c : List ℕ) → may_leave journal.disk c → Empty c)) (λ file is.
        let stored = told _ _ file is creates.stored in
        (inr stored.0, λ c left. inr (stored.1 c left)));
    any_moment = moments_made blank cleared text (Ok journal) clears creates;
  }
    where
      Empty : List ℕ → Type 0
      Empty file = StandsFor file text []
  made_none blank cleared text (Err new) clears creates = (
    record {
      blank = clears.was_blank;
      tells = turns_on (reads_as blank) (reads_as cleared) (reads_as new) clears.tells creates.tells;
      stands = creates.kept;
      any_moment = where_told (reads_as blank)
          (λ _. LeavesOnly moment left_since blank new (λ file. may_leave blank file ⊎ StandsFor file text [])) (λ file is.
          widened moment left_since blank new _ (λ (f : List ℕ). may_leave blank f ⊎ StandsFor f text [])
          (told _ _ file is (moments_made blank cleared text (Err new) clears creates)) (λ c stands. inr stands));
    },
    subst (λ (n : ℕ). Rose n (faults new)) clears.cause creates.device,
  )

  pub made_blank : (blank cleared : D) (text : List ℕ) (grants : List Grant) (made : Result (JournalState D) D) → grants ≡ []
      → Clears blank cleared → Creates cleared text made → IsMade reads_as may_leave moment left_since faults blank text grants made
  made_blank blank cleared text grants made none clears creates =
      subst (λ (gs : List Grant). IsMade reads_as may_leave moment left_since faults blank text gs made) (sym none)
      (made_none blank cleared text made clears creates)
