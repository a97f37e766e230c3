-- How a command ends that makes two tests, the second by what the first one read, and then goes on.
use Rattle.std.proofs.Common.{◌≡◌, ℕ, List, Option, Ok, refl}
use Rattle.outside_io.specs.Files.{Names}
use Rattle.cell_walks.specs.Allowed.{AllowsFrom, ByMemory, IsAllowed, IsEndedAt, Passed, Stopped, Unasked}
use Rattle.cell_walks.specs.DiskTold.{DiskTold, IsUntouched}
use Rattle.cell_walks.specs.Observed.{File, HoldsOfBytes, Known, Observed, Source, Word, files_told, observed}
use Rattle.cell_walks.specs.Outcomes.{Outcome, early}
use Rattle.cell_walks.specs.Walks.{Test, Tests, Walk}
use Rattle.cell_walks.specs.declared.early_end.EarlyEnd.{EarlyEnd}
use Rattle.cell_walks.specs.declared.early_end.EarlyEnd.TheVariants.{WantOfMemory}
use Rattle.cell_walks.proofs.Steps.{ended_at, ended_after, shown_before}

module _ {F : Type 0} (holds : F → Option Names) (is_sound : F → Type 0) (faults : F → ℕ) where
  -- what holds of the bytes there at the first call holds of them whatever comes after it
  shown_first : (old mid new : F) (source : Source) (P : List ℕ → Type 0) → HoldsOfBytes (files_told holds is_sound faults old mid) source P
      → HoldsOfBytes (files_told holds is_sound faults old new) source P
  shown_first old mid new (Word word) P shows = shows
  shown_first old mid new (File name) P shows = shows
  shown_first old mid new Known P shows = shows

  module _ (disk : DiskTold) (first : Test) (second : first.Value → Test) (onward : (a : first.Value) → (second a).Value → Walk) where
    abbrev after_first : first.Value → Walk
    after_first a = Tests (second a) (onward a)

    -- the first ended it
    pub first_ended : (old new : F) (end : EarlyEnd) → IsUntouched disk → IsEndedAt (files_told holds is_sound faults old new) first end
        → IsAllowed (observed (files_told holds is_sound faults old new) disk) (Tests first after_first) (early end)
    first_ended old new end still ended =
        ended_at (observed (files_told holds is_sound faults old new) disk) Unasked first after_first end ended still

    module _ (old mid new : F) (a : first.Value)
        (shows : HoldsOfBytes (files_told holds is_sound faults old mid) first.source (λ bytes. first.reads bytes (Ok a)))
        (same : holds mid ≡ holds old) where
      abbrev seen : Observed
      seen = observed (files_told holds is_sound faults old new) disk

      first_passed : HoldsOfBytes seen.files first.source (λ bytes. first.reads bytes (Ok a))
      first_passed = shown_first old mid new first.source (λ bytes. first.reads bytes (Ok a)) shows

      -- the second did
      pub second_ended : (end : EarlyEnd) → IsUntouched disk → faults mid ≡ faults old → (is_sound old → is_sound mid)
          → IsEndedAt (files_told holds is_sound faults mid new) (second a) end
          → IsAllowed seen (Tests first after_first) (early end)
      second_ended end still kept stays ended =
          Passed a first_passed
          (ended_at seen Unasked (second a) (onward a) end
          (ended_after holds is_sound faults old mid new same kept stays (second a) end ended) still)

      -- memory was wanting before it went on
      pub starved_between : IsUntouched disk → IsAllowed seen (Tests first after_first) (early WantOfMemory)
      starved_between still = Passed a first_passed (Stopped WantOfMemory (ByMemory refl) (refl, still))

      -- both were passed
      pub both_passed : (b : (second a).Value) (outcome : Outcome)
          → HoldsOfBytes (files_told holds is_sound faults mid new) (second a).source (λ bytes. (second a).reads bytes (Ok b))
          → AllowsFrom seen outcome Unasked (onward a b) → IsAllowed seen (Tests first after_first) outcome
      both_passed b outcome read went_on =
          Passed a first_passed
          (Passed b
          (shown_before holds is_sound faults old mid new same (second a).source (λ bytes. (second a).reads bytes (Ok b)) read)
          went_on)
