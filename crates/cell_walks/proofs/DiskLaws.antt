-- What an outcome that a walk allows leaves of the disk.
use Rattle.std.specs.Prelude.{IfSome, IsSomeAnd}
use Rattle.std.proofs.Common.{◌≡◌, ◌⊎◌, inl, inr, ℕ, List, ◌++◌, Ok, Err, ap, subst, ◌∙◌, refl}
use Rattle.cell_base.specs.declared.cells.Cell.{Cell}
use Rattle.cell_base.specs.declared.shifts.Grant.{Grant}
use Rattle.journal_format.specs.Replayed.{opened_as}
use Rattle.journal_format.specs.Blanks.{IsBlank}
use Rattle.journal_format.specs.declared.fault.JournalFault.{JournalFault}
use Rattle.cell_walks.specs.Allowed.{AllowsFrom, IsAllowed, IsLeft, IsOpenedAs, IsUnopened, Reached, reached_by, Stopped}
use Rattle.cell_walks.specs.Allowed.{Passed, NotOpened, OpeningFailed, OpeningRefused, OpeningStarved, JournalOpened}
use Rattle.cell_walks.specs.DiskTold.{IsOnlyRead, StoodFor}
use Rattle.cell_walks.specs.Observed.{Observed}
use Rattle.cell_walks.specs.Outcomes.{Outcome, early}
use Rattle.cell_walks.specs.Promises.{HoldsRefused, ReachesJournal, AnswersFrom, AnswersNow, OpensLast}
use Rattle.cell_walks.specs.Promises.{KeepsGrants, OnlyReadsJournal, OpensNone, OpensOnce, StandsWith}
use Rattle.cell_walks.specs.Walks.{Journal, Purpose, ToRead, ToAdd, Walk, Tests, Opens, Answers}
use Rattle.cell_walks.specs.declared.early_end.EarlyEnd.TheVariants.{DeviceFailed}
use Rattle.cell_walks.proofs.Laws.{one_of, opened_one}
use Rattle.cell_walks.proofs.Standing.{blank_opens, found_same, still_by_read, still_standing}
use Rattle.cell_walks.proofs.Walked.{added_with, disk_both, read_untouched, still_with}

module _ (seen : Observed) (outcome : Outcome) where
  -- ---- the disk

  -- where no journal is opened from here on, what is left is what the end leaves
  pub left_so : (reached : Reached) (walk : Walk) → OpensNone walk → AllowsFrom seen outcome reached walk → IsLeft reached seen.disk outcome
  left_so reached (Tests test next) none (Stopped end ended is) = is.1
  left_so reached (Tests test next) none (Passed value shows follows) = left_so reached (next value) (none value) follows
  left_so reached (Opens journal next) none allowed = absurd none
  left_so reached (Answers allows) none answers = answers.1

  -- nothing was added yet
  abbrev pub IsRead : Reached → Type 0
  IsRead reached = IsLeft reached seen.disk outcome → IsOnlyRead seen.disk

  read_by : (purpose : Purpose) (text : List ℕ) (grants : List Grant) → purpose ≡ ToRead → IsRead (reached_by purpose text grants)
  read_by ToRead text grants is left = left
  read_by ToAdd text grants is left = absurd (cc)

  unopened_read : (purpose : Purpose) (text : List ℕ) → purpose ≡ ToRead → IsUnopened purpose text seen.disk → IsOnlyRead seen.disk
  unopened_read ToRead text is left = left
  unopened_read ToAdd text is left = absurd (cc)

  pub read_so : (reached : Reached) → IsRead reached → (walk : Walk) → OnlyReadsJournal walk → AllowsFrom seen outcome reached walk
      → IsOnlyRead seen.disk
  read_so reached read (Tests test next) only (Stopped end ended is) = read is.1
  read_so reached read (Tests test next) only (Passed value shows follows) = read_so reached read (next value) (only value) follows
  read_so reached read (Opens journal next) only (NotOpened end (OpeningFailed ends rose left) is) =
      unopened_read journal.purpose journal.text only.0 left
  read_so reached read (Opens journal next) only (NotOpened end (OpeningRefused why refused left ends) is) = left
  read_so reached read (Opens journal next) only (NotOpened end (OpeningStarved ends left) is) = left
  read_so reached read (Opens journal next) only (JournalOpened grants opened follows) =
      read_so (reached_by journal.purpose journal.text grants) (read_by journal.purpose journal.text grants only.0) (next grants)
      (only.1 grants) follows
  read_so reached read (Answers allows) only answers = read answers.1

  -- an early end only reads, where no test comes after the journal
  early_answer : (reached : Reached) (walk : Walk) → AnswersNow walk → AllowsFrom seen outcome reached walk
      → AnswersFrom seen outcome reached walk
  early_answer reached (Tests test next) now allowed = absurd now
  early_answer reached (Opens journal next) now allowed = absurd now
  early_answer reached (Answers allows) now answers = answers

  unopened_early : (purpose : Purpose) (text : List ℕ) → IsUnopened purpose text seen.disk → (P : Type 0) → outcome ≡ early DeviceFailed
      → IsOnlyRead seen.disk ⊎ ((outcome ≡ early DeviceFailed) ⊎ P)
  unopened_early ToRead text left P is = inl left
  unopened_early ToAdd text left P is = inr (inl is)

  pub early_so : (reached : Reached) → IsRead reached → (walk : Walk) → OpensLast walk → AllowsFrom seen outcome reached walk
      → IsOnlyRead seen.disk ⊎ ((outcome ≡ early DeviceFailed) ⊎ AnswersFrom seen outcome reached walk)
  early_so reached read (Tests test next) last (Stopped end ended is) = inl (read is.1)
  early_so reached read (Tests test next) last (Passed value shows follows) =
      elim (early_so reached read (next value) (last value) follows) [
        | inl only ↦ inl only
        | inr (inl device) ↦ inr (inl device)
        | inr (inr answers) ↦ inr (inr (value, shows, answers))
      ]
  early_so reached read (Opens journal next) last (NotOpened end (OpeningFailed ends rose left) is) =
      unopened_early journal.purpose journal.text left _ (is ∙ ap early ends)
  early_so reached read (Opens journal next) last (NotOpened end (OpeningRefused why refused left ends) is) = inl left
  early_so reached read (Opens journal next) last (NotOpened end (OpeningStarved ends left) is) = inl left
  early_so reached read (Opens journal next) last (JournalOpened grants opened follows) =
      inr (inr (grants, opened, early_answer (reached_by journal.purpose journal.text grants) (next grants) (last grants) follows))
  early_so reached read (Answers allows) last answers = inr (inr answers)

  -- it was only read, or a journal was reached that may be added to
  unopened_disk : (journal : Journal) (purpose : Purpose) → journal.purpose ≡ purpose → (next : List Grant → Walk)
      → IsUnopened purpose journal.text seen.disk → IsOnlyRead seen.disk ⊎ ReachesJournal seen outcome (Opens journal next)
  unopened_disk journal ToRead is next left = inl left
  unopened_disk journal ToAdd is next left = inr (is, inl left)

  opened_disk : (journal : Journal) (purpose : Purpose) → journal.purpose ≡ purpose → (next : List Grant → Walk) (grants : List Grant)
      → IsOpenedAs seen.disk journal grants → IsLeft (reached_by purpose journal.text grants) seen.disk outcome
      → IsOnlyRead seen.disk ⊎ ReachesJournal seen outcome (Opens journal next)
  opened_disk journal ToRead is next grants opened left = inl left
  opened_disk journal ToAdd is next grants opened left = inr (is, inr (grants, opened, left))

  pub disk_so : (reached : Reached) → IsRead reached → (walk : Walk) → OpensOnce walk → AllowsFrom seen outcome reached walk
      → IsOnlyRead seen.disk ⊎ ReachesJournal seen outcome walk
  disk_so reached read (Tests test next) once (Stopped end ended is) = inl (read is.1)
  disk_so reached read (Tests test next) once (Passed value shows follows) = elim (disk_so reached read (next value) (once value) follows) [
    | inl only ↦ inl only
    | inr reaches ↦ inr (value, shows, reaches)
  ]
  disk_so reached read (Opens journal next) once (NotOpened end (OpeningFailed ends rose left) is) =
      unopened_disk journal journal.purpose refl next left
  disk_so reached read (Opens journal next) once (NotOpened end (OpeningRefused why refused left ends) is) = inl left
  disk_so reached read (Opens journal next) once (NotOpened end (OpeningStarved ends left) is) = inl left
  disk_so reached read (Opens journal next) once (JournalOpened grants opened follows) =
      opened_disk journal journal.purpose refl next grants opened
      (left_so (reached_by journal.purpose journal.text grants) (next grants) (once grants) follows)
  disk_so reached read (Answers allows) once answers = inl (read answers.1)

  -- ---- a refused journal

  -- it is not blank, since what is blank stands for no grants
  not_blank : (cell : Cell) (text : List ℕ) (room : ℕ) (why : JournalFault)
      → IsSomeAnd seen.disk.reads (λ file. opened_as cell file text room ≡ Err why) → IfSome seen.disk.reads IsBlank → ⊥
  not_blank cell text room why tells blank =
      let same = disk_both seen.disk.reads (λ file. opened_as cell file text room ≡ Err why) IsBlank tells blank in
      blank_opens cell same.0 text room why same.2 same.1

  unopened_reads : (journal : Journal) (purpose : Purpose) (why : JournalFault)
      → IsSomeAnd seen.disk.reads (λ file. opened_as journal.cell file journal.text journal.room ≡ Err why)
      → IsUnopened purpose journal.text seen.disk → IsOnlyRead seen.disk
  unopened_reads journal ToRead why tells left = left
  unopened_reads journal ToAdd why tells (inl only) = only
  unopened_reads journal ToAdd why tells (inr empty) = absurd (not_blank journal.cell journal.text journal.room why tells empty.blank)

  pub refused_reads : (reached : Reached) → IsRead reached → (walk : Walk) → AllowsFrom seen outcome reached walk → HoldsRefused seen walk
      → IsOnlyRead seen.disk
  refused_reads reached read (Tests test next) (Stopped end ended is) holds = read is.1
  refused_reads reached read (Tests test next) (Passed value shows follows) (known, tells, holds) =
      let same = one_of seen outcome test (Ok known) (Ok value) tells shows in
      let one : known ≡ value = cc in
      refused_reads reached read (next value) follows (subst (λ (v : test.Value). HoldsRefused seen (next v)) one holds)
  refused_reads reached read (Opens journal next) (NotOpened end (OpeningFailed ends rose left) is) (why, tells) =
      unopened_reads journal journal.purpose why tells left
  refused_reads reached read (Opens journal next) (NotOpened end (OpeningRefused other refused left ends) is) holds = left
  refused_reads reached read (Opens journal next) (NotOpened end (OpeningStarved ends left) is) holds = left
  refused_reads reached read (Opens journal next) (JournalOpened grants opened follows) (why, tells) =
      let same = opened_one seen outcome journal (Err why) (Ok grants) tells opened.1 in absurd (cc)
  refused_reads reached read (Answers allows) answers holds = absurd holds

  -- ---- a crash

  module _ (now : IfSome seen.disk.reads seen.disk.leaves) where
    abbrev since : List Grant
    since = outcome.added ++ outcome.unsure

    read_keeps : IsOnlyRead seen.disk → (walk : Walk) → KeepsGrants seen outcome walk
    read_keeps only (Tests test next) = λ value tells. read_keeps only (next value)
    read_keeps only (Opens journal next) = λ grants stood.
        still_with seen.disk journal.text grants stood since (still_by_read seen.disk now journal.text grants stood only)
    read_keeps only (Answers allows) = tt

    opened_keeps : (purpose : Purpose) (text : List ℕ) (grants : List Grant) → StoodFor seen.disk text grants
        → IsLeft (reached_by purpose text grants) seen.disk outcome → StandsWith seen.disk text grants since
    opened_keeps ToRead text grants stood left =
        still_with seen.disk text grants stood since (still_by_read seen.disk now text grants stood left)
    opened_keeps ToAdd text grants stood left = added_with seen.disk text grants stood outcome.added outcome.unsure left

    unopened_keeps : (purpose : Purpose) (text : List ℕ) (grants : List Grant) → StoodFor seen.disk text grants
        → IsUnopened purpose text seen.disk → StandsWith seen.disk text grants since
    unopened_keeps ToRead text grants stood left =
        still_with seen.disk text grants stood since (still_by_read seen.disk now text grants stood left)
    unopened_keeps ToAdd text grants stood left =
        still_with seen.disk text grants stood since (still_standing seen.disk now text grants stood left)

    pub keeps_so : (walk : Walk) → OpensOnce walk → IsAllowed seen walk outcome → KeepsGrants seen outcome walk
    keeps_so (Tests test next) once (Stopped end ended is) = read_keeps (read_untouched seen.disk is.1) (Tests test next)
    keeps_so (Tests test next) once (Passed value shows follows) = λ known tells.
        let same = one_of seen outcome test (Ok known) (Ok value) tells shows in
        let one : value ≡ known = cc in
        subst (λ (v : test.Value). KeepsGrants seen outcome (next v)) one (keeps_so (next value) (once value) follows)
    keeps_so (Opens journal next) once (NotOpened end (OpeningFailed ends rose left) is) =
        λ grants stood. unopened_keeps journal.purpose journal.text grants stood left
    keeps_so (Opens journal next) once (NotOpened end (OpeningRefused why refused left ends) is) = read_keeps left (Opens journal next)
    keeps_so (Opens journal next) once (NotOpened end (OpeningStarved ends left) is) = read_keeps left (Opens journal next)
    keeps_so (Opens journal next) once (JournalOpened found opened follows) = λ grants stood.
        let same = found_same seen.disk now journal.text grants stood journal.cell journal.room found opened.1 in
        opened_keeps journal.purpose journal.text grants stood
        (subst (λ (gs : List Grant). IsLeft (reached_by journal.purpose journal.text gs) seen.disk outcome) same
        (left_so (reached_by journal.purpose journal.text found) (next found) (once found) follows))
    keeps_so (Answers allows) once answers = tt
