-- Why an outcome that a walk allows comes, by its tests in their order.
use Rattle.std.specs.Prelude.{IfSome, IsSomeAnd}
use Rattle.std.proofs.Common.{Some, ◌≡◌, ◌⊎◌, inl, inr, ℕ, List, Result, Ok, Err, sym, ap, subst, ◌∙◌, refl}
use Rattle.cell_base.specs.declared.shifts.Grant.{Grant}
use Rattle.journal_format.specs.Replayed.{opened_as}
use Rattle.journal_format.specs.declared.fault.JournalFault.{JournalFault}
use Rattle.cell_walks.specs.Allowed.{AllowsFrom, IsOpenedAs, Reached, reached_by, IsUnread, ByFault, ByMemory, ByRefusal, Stopped}
use Rattle.cell_walks.specs.Allowed.{Passed, NotOpened, OpeningFailed, OpeningRefused, OpeningStarved, JournalOpened}
use Rattle.cell_walks.specs.Observed.{Observed, HoldsOfBytes, Tells, certain}
use Rattle.cell_walks.specs.Outcomes.{Outcome, early}
use Rattle.cell_walks.specs.Promises.{Accepts, AnswersFrom, IsRefused, Refuses, UnlessOutside}
use Rattle.cell_walks.specs.Promises.{ReadFailed, DiskFailed, MemoryFailed, Decided}
use Rattle.cell_walks.specs.Walks.{refusal_by, refusal_of, Journal, Test, Walk, Tests, Opens, Answers}
use Rattle.cell_walks.specs.declared.early_end.EarlyEnd.{EarlyEnd}
use Rattle.cell_walks.specs.declared.early_end.EarlyEnd.TheVariants.{Refused}
use Rattle.cell_walks.specs.declared.early_end.Refusal.{Refusal}
use Rattle.cell_walks.proofs.Standing.{accepted_opens, found_same}
use Rattle.cell_walks.proofs.Walked.{both, disk_both, unread}

module _ (seen : Observed) (outcome : Outcome) where
  -- ---- one step of a walk

  after_test : (test : Test) (next : test.Value → Walk) (value : test.Value)
      → HoldsOfBytes seen.files test.source (λ bytes. test.reads bytes (Ok value)) → (P Q : Type 0) → (P → Q)
      → UnlessOutside seen (next value) outcome P → UnlessOutside seen (Tests test next) outcome Q
  after_test test next value shows P Q so (ReadFailed is rose not) = ReadFailed is rose (λ sound there. not sound (there.1 value shows))
  after_test test next value shows P Q so (DiskFailed is rose not) = DiskFailed is rose (λ none. not (none value))
  after_test test next value shows P Q so (MemoryFailed is) = MemoryFailed is
  after_test test next value shows P Q so (Decided p) = Decided (so p)

  after_opening : (journal : Journal) (next : List Grant → Walk) (grants : List Grant) → IsOpenedAs seen.disk journal grants
      → (P Q : Type 0) → (P → Q) → UnlessOutside seen (next grants) outcome P → UnlessOutside seen (Opens journal next) outcome Q
  after_opening journal next grants opened P Q so (ReadFailed is rose not) =
      ReadFailed is rose (λ sound there. not sound (there grants opened))
  after_opening journal next grants opened P Q so (DiskFailed is rose not) = DiskFailed is rose (λ none. none)
  after_opening journal next grants opened P Q so (MemoryFailed is) = MemoryFailed is
  after_opening journal next grants opened P Q so (Decided p) = Decided (so p)

  unread_at : (test : Test) (next : test.Value → Walk) (end : EarlyEnd) (P : Type 0)
      → IsUnread seen.files test.source end → outcome ≡ early end
      → UnlessOutside seen (Tests test next) outcome P
  unread_at test next end P u is =
      let why = unread seen.files test.source end u in
      ReadFailed (is ∙ ap early why.0) why.1 (λ sound there. why.2 sound there.0)

  -- ---- no end without its cause

  pub caused : (reached : Reached) (walk : Walk) → AllowsFrom seen outcome reached walk
      → UnlessOutside seen walk outcome (IsRefused seen walk outcome ⊎ AnswersFrom seen outcome reached walk)
  caused reached (Tests test next) (Stopped end (ByFault u) is) = unread_at test next end _ u is.0
  caused reached (Tests test next) (Stopped end (ByRefusal fault shows line has ends) is) =
      Decided (inl (refusal_of test line, is.0 ∙ ap early ends, inl (fault, line, shows, has, refl)))
  caused reached (Tests test next) (Stopped end (ByMemory ends) is) = MemoryFailed (is.0 ∙ ap early ends)
  caused reached (Tests test next) (Passed value shows follows) =
      after_test test next value shows _ _
      (elim [
        | inl refused ↦ inl (refused.0, refused.1, inr (value, shows, refused.2))
        | inr answers ↦ inr (value, shows, answers)
      ])
      (caused reached (next value) follows)
  caused reached (Opens journal next) (NotOpened end (OpeningFailed ends rose left) is) =
      DiskFailed (is ∙ ap early ends) rose (λ none. none)
  caused reached (Opens journal next) (NotOpened end (OpeningRefused why refused left ends) is) =
      Decided (inl (refusal_by journal why, is ∙ ap early ends, inl (why, refused, refl)))
  caused reached (Opens journal next) (NotOpened end (OpeningStarved ends left) is) = MemoryFailed (is ∙ ap early ends)
  caused reached (Opens journal next) (JournalOpened grants opened follows) =
      after_opening journal next grants opened _ _
      (elim [
        | inl refused ↦ inl (refused.0, refused.1, inr (grants, opened.1, refused.2))
        | inr answers ↦ inr (grants, opened, answers)
      ])
      (caused (reached_by journal.purpose journal.text grants) (next grants) follows)
  caused reached (Answers allows) answers = Decided (inr answers)

  -- ---- what is refused for certain

  -- a test that reads in one way
  pub one_of : (test : Test) (a b : Result test.Value test.Fault) → Tells seen.files test.source (λ bytes. test.reads bytes a)
      → HoldsOfBytes seen.files test.source (λ bytes. test.reads bytes b) → a ≡ b
  one_of test a b tells shows =
      let same = both seen.files test.source (λ bytes. test.reads bytes a) (λ bytes. test.reads bytes b) tells shows in
      test.one_way same.0 a b same.1 same.2

  pub opened_one : (journal : Journal) (a b : Result (List Grant) JournalFault)
      → IsSomeAnd seen.disk.reads (λ file. opened_as journal.cell file journal.text journal.room ≡ a)
      → IfSome seen.disk.reads (λ file. opened_as journal.cell file journal.text journal.room ≡ b) → a ≡ b
  opened_one journal a b tells shows =
      let same = disk_both seen.disk.reads (λ file. opened_as journal.cell file journal.text journal.room ≡ a)
      (λ file. opened_as journal.cell file journal.text journal.room ≡ b) tells shows in
      sym same.1 ∙ same.2

  pub refused_so : (refusal : Refusal) (reached : Reached) (walk : Walk) → Refuses (certain seen) walk refusal
      → AllowsFrom seen outcome reached walk → UnlessOutside seen walk outcome (outcome ≡ early (Refused refusal))
  refused_so refusal reached (Tests test next) refuses (Stopped end (ByFault u) is) = unread_at test next end _ u is.0
  refused_so refusal reached (Tests test next) refuses (Stopped end (ByMemory ends) is) = MemoryFailed (is.0 ∙ ap early ends)
  refused_so refusal reached (Tests test next) (inl (fault, line, tells, has, so)) (Stopped end (ByRefusal other shows shown_line
      shown_has ends) is) =
      let same = one_of test (Err fault) (Err other) tells shows in
      let one : fault ≡ other = cc in
      let both : Some line ≡ Some shown_line = sym has ∙ ap test.line one ∙ shown_has in
      let one_line : line ≡ shown_line = cc in
      Decided (is.0 ∙ ap early ends ∙ ap (λ (l : List ℕ). early (Refused (refusal_of test l))) (sym one_line)
      ∙ ap (λ (r : Refusal). early (Refused r)) so)
  refused_so refusal reached (Tests test next) (inl (fault, line, tells, has, so)) (Passed value shows follows) =
      let same = one_of test (Err fault) (Ok value) tells shows in absurd (cc)
  refused_so refusal reached (Tests test next) (inr (known, tells, refuses)) (Stopped end (ByRefusal other shows line has ends) is) =
      let same = one_of test (Ok known) (Err other) tells shows in absurd (cc)
  refused_so refusal reached (Tests test next) (inr (known, tells, refuses)) (Passed value shows follows) =
      let same = one_of test (Ok known) (Ok value) tells shows in
      let one : known ≡ value = cc in
      after_test test next value shows _ _ (λ p. p)
      (refused_so refusal reached (next value) (subst (λ (v : test.Value). Refuses (certain seen) (next v) refusal) one refuses) follows)
  refused_so refusal reached (Opens journal next) refuses (NotOpened end (OpeningFailed ends rose left) is) =
      DiskFailed (is ∙ ap early ends) rose (λ none. none)
  refused_so refusal reached (Opens journal next) refuses (NotOpened end (OpeningStarved ends left) is) = MemoryFailed (is ∙ ap early ends)
  refused_so refusal reached (Opens journal next) (inl (why, tells, so)) (NotOpened end (OpeningRefused other refused left ends) is) =
      let same = opened_one journal (Err why) (Err other) tells refused in
      let one : why ≡ other = cc in
      Decided (is ∙ ap early ends ∙ ap (λ (w : JournalFault). early (Refused (refusal_by journal w))) (sym one)
      ∙ ap (λ (r : Refusal). early (Refused r)) so)
  refused_so refusal reached (Opens journal next) (inl (why, tells, so)) (JournalOpened grants opened follows) =
      let same = opened_one journal (Err why) (Ok grants) tells opened.1 in absurd (cc)
  refused_so refusal reached (Opens journal next) (inr (known, tells, refuses)) (NotOpened end (OpeningRefused other refused left ends)
      is) =
      let same = opened_one journal (Ok known) (Err other) tells refused in absurd (cc)
  refused_so refusal reached (Opens journal next) (inr (known, tells, refuses)) (JournalOpened grants opened follows) =
      let same = opened_one journal (Ok known) (Ok grants) tells opened.1 in
      let one : known ≡ grants = cc in
      after_opening journal next grants opened _ _ (λ p. p)
      (refused_so refusal (reached_by journal.purpose journal.text grants) (next grants)
      (subst (λ (gs : List Grant). Refuses (certain seen) (next gs) refusal) one refuses) follows)
  refused_so refusal reached (Answers allows) refuses answers = absurd refuses

  -- ---- nothing is refused

  module _ (now : IfSome seen.disk.reads seen.disk.leaves) where
    pub accepted_answers : (reached : Reached) (walk : Walk) → Accepts seen walk → AllowsFrom seen outcome reached walk
        → UnlessOutside seen walk outcome (AnswersFrom seen outcome reached walk)
    accepted_answers reached (Tests test next) accepts (Stopped end (ByFault u) is) = unread_at test next end _ u is.0
    accepted_answers reached (Tests test next) accepts (Stopped end (ByMemory ends) is) = MemoryFailed (is.0 ∙ ap early ends)
    accepted_answers reached (Tests test next) accepts (Stopped end (ByRefusal fault shows line has ends) is) =
        absurd (accepts.0 fault shows)
    accepted_answers reached (Tests test next) accepts (Passed value shows follows) =
        after_test test next value shows _ _ (λ answers. (value, shows, answers))
        (accepted_answers reached (next value) (accepts.1 value shows) follows)
    accepted_answers reached (Opens journal next) accepts (NotOpened end (OpeningFailed ends rose left) is) =
        DiskFailed (is ∙ ap early ends) rose (λ none. none)
    accepted_answers reached (Opens journal next) accepts (NotOpened end (OpeningStarved ends left) is) = MemoryFailed (is ∙ ap early ends)
    accepted_answers reached (Opens journal next) accepts (NotOpened end (OpeningRefused why refused left ends) is) =
        absurd (accepted_opens seen.disk now journal.text accepts.0 accepts.1 journal.cell journal.room accepts.2 accepts.3 why refused)
    accepted_answers reached (Opens journal next) accepts (JournalOpened grants opened follows) =
        let same = found_same seen.disk now journal.text accepts.0 accepts.1 journal.cell journal.room grants opened.1 in
        after_opening journal next grants opened _ _ (λ answers. (grants, opened, answers))
        (accepted_answers (reached_by journal.purpose journal.text grants) (next grants)
        (subst (λ (gs : List Grant). Accepts seen (next gs)) (sym same) accepts.4) follows)
    accepted_answers reached (Answers allows) accepts answers = Decided answers
