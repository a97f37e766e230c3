-- How a body comes to an outcome that its walk allows.
use Rattle.std.specs.Prelude.{IfSome, IsSomeAnd}
use Rattle.std.proofs.Common.{◌≡◌, ℕ, List, Option, Some, None, Err, refl, sym, subst}
use Rattle.cell_base.specs.declared.shifts.Grant.{Grant}
use Rattle.outside_io.specs.Causes.{Rose}
use Rattle.outside_io.specs.Files.{IsThere, Names}
use Rattle.cell_walks.specs.Allowed.{AllowsFrom, ByFault, ByMemory, ByRefusal, IsAllowed, IsEndedAt, IsLeft}
use Rattle.cell_walks.specs.Allowed.{IsNotOpened, IsUnread, NotOpened, Passed, Reached, Stopped}
use Rattle.cell_walks.specs.DiskTold.{DiskTold, IsUntouched, no_disk}
use Rattle.cell_walks.specs.Observed.{FilesTold, Known, Observed, HoldsOfBytes, Source, Word, File, files_told, observed}
use Rattle.cell_walks.specs.Outcomes.{Outcome, early}
use Rattle.cell_walks.specs.Promises.{OpensNone}
use Rattle.cell_walks.specs.Walks.{Answers, Journal, Opens, Test, Tests, Walk, end_with}
use Rattle.cell_walks.specs.declared.early_end.EarlyEnd.{EarlyEnd}

-- the bytes have a fault
pub ended_by_fault : (files : FilesTold) (test : Test) (fault : test.Fault)
    → HoldsOfBytes files test.source (λ bytes. test.reads bytes (Err fault))
    → IsEndedAt files test (end_with test.subject (test.line fault))
ended_by_fault files test fault shows = by_line (test.line fault) refl
  where
    by_line : (line : Option (List ℕ)) → test.line fault ≡ line → IsEndedAt files test (end_with test.subject line)
    by_line None has = ByMemory refl
    by_line (Some line) has = ByRefusal fault shows line has refl

module _ (seen : Observed) where
  -- a test ended the command
  pub ended_at : (reached : Reached) (test : Test) (next : test.Value → Walk) (end : EarlyEnd) → IsEndedAt seen.files test end
      → IsLeft reached seen.disk (early end) → AllowsFrom seen (early end) reached (Tests test next)
  ended_at reached test next end ended left = Stopped end ended (refl, left)

  -- the opening of a journal did
  pub ended_at_opening : (reached : Reached) (journal : Journal) (next : List Grant → Walk) (end : EarlyEnd)
      → IsNotOpened seen.disk journal end
      → AllowsFrom seen (early end) reached (Opens journal next)
  ended_at_opening reached journal next end ended = NotOpened end ended refl

-- ---- without a disk

pub none_done : IsUntouched no_disk
none_done = record {
  reads = refl;
  counts = refl;
  leaves = (λ file left. left, λ file left. left);
  any_moment = λ file left. left;
}

module _ (files : FilesTold) (disk : DiskTold) (still : IsUntouched disk) (outcome : Outcome) where
  -- what a function without a disk comes to is allowed over each disk that isn't touched
  pub on_any_disk : (walk : Walk) → OpensNone walk → IsAllowed (observed files no_disk) walk outcome
      → IsAllowed (observed files disk) walk outcome
  on_any_disk (Tests test next) none (Stopped end ended is) = Stopped end ended (is.0, still)
  on_any_disk (Tests test next) none (Passed value shows follows) = Passed value shows (on_any_disk (next value) (none value) follows)
  on_any_disk (Opens journal next) none allowed = absurd none
  on_any_disk (Answers allows) none answers = (answers.0, still)

-- ---- several files

module _ {F : Type 0} (holds : F → Option Names) (is_sound : F → Type 0) (faults : F
    → ℕ) (old mid new : F) (same : holds mid ≡ holds old) where
  -- what later files show, the earlier ones show
  pub shown_before : (source : Source) (P : List ℕ → Type 0) → HoldsOfBytes (files_told holds is_sound faults mid new) source P
      → HoldsOfBytes (files_told holds is_sound faults old new) source P
  shown_before (Word word) P shows = shows
  shown_before (File name) P shows = subst (λ (names : Option Names). IfSome names (λ held. IsSomeAnd (held name) P)) same shows
  shown_before Known P shows = shows

  unread_before : faults mid ≡ faults old → (is_sound old → is_sound mid) → (source : Source) (end : EarlyEnd)
      → IsUnread (files_told holds is_sound faults mid new) source end → IsUnread (files_told holds is_sound faults old new) source end
  unread_before kept stays (Word word) end is = absurd is
  unread_before kept stays (File name) end is = (
    is.0,
    subst (λ (n : ℕ). Rose n (faults new)) kept is.1,
    λ sound there. is.2 (stays sound) (subst (λ (names : Option Names). IsThere names name) (sym same) there),
  )
  unread_before kept stays Known end is = absurd is

  -- a test that ends a command after others, of which none failed
  pub ended_after : faults mid ≡ faults old → (is_sound old → is_sound mid) → (test : Test) (end : EarlyEnd)
      → IsEndedAt (files_told holds is_sound faults mid new) test end → IsEndedAt (files_told holds is_sound faults old new) test end
  ended_after kept stays test end (ByFault u) = ByFault (unread_before kept stays test.source end u)
  ended_after kept stays test end (ByRefusal fault shows line has is) =
      ByRefusal fault (shown_before test.source (λ bytes. test.reads bytes (Err fault)) shows) line has is
  ended_after kept stays test end (ByMemory is) = ByMemory is
