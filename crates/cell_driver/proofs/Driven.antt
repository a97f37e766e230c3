-- How a command on a cell comes to its end.
use Rattle.std.proofs.Common.{◌≡◌, ℕ, List, Option, Result, Ok, refl, ap}
use Rattle.outside_io.specs.Files.{Names}
use Rattle.outside_io.specs.Meanings.{DiskMeaning, FilesMeaning}
use Rattle.outside_io.specs.Puts.{SinkTold}
use Rattle.cell_base.specs.declared.shifts.Grant.{Grant}
use Rattle.cell_walks.specs.Allowed.{AllowsFrom, ByMemory, IsEndedAt, JournalOpened, NotOpened, Passed, Reached, Stopped, Unasked, reached_by}
use Rattle.cell_walks.specs.DiskTold.{DiskTold, IsUntouched, disk_seen}
use Rattle.cell_walks.specs.Observed.{File, Known, ShowsFile, Source, Word, HoldsOfBytes, files_seen, files_told, observed}
use Rattle.cell_walks.specs.Outcomes.{Cut, IsDelivered, Outcome, Whole, early, or_early}
use Rattle.cell_walks.specs.Promises.{Ends}
use Rattle.cell_walks.specs.Walks.{Answers, Opens, Tests, Walk}
use Rattle.cell_walks.specs.declared.early_end.EarlyEnd.{EarlyEnd}
use Rattle.cell_walks.specs.declared.early_end.EarlyEnd.TheVariants.{WantOfMemory}
use Rattle.cell_walks.specs.declared.status.Status.{Status}
use Rattle.cell_walks.proofs.Steps.{ended_after, shown_before}
use Rattle.cell_texts.specs.Tests.{KnownCell, cell_file, cell_reads}
use Rattle.cell_texts.proofs.Disks.{untouched}
use Rattle.cell_driver.specs.Driving.{Adding, Allowed, IsMade, Starved, adding, on_cell}

-- ---- files that were read before

module _ {F : Type 0} (holds : F → Option Names) (is_sound : F → Type 0) (faults : F → ℕ) (old mid new : F)
    (same : holds mid ≡ holds old) (kept : faults mid ≡ faults old) (stays : is_sound old → is_sound mid) (disk : DiskTold)
    (outcome : Outcome) where
  -- what a walk allows of later files, where no read failed before, it allows of the earlier ones
  allowed_before : (reached : Reached) (walk : Walk)
      → AllowsFrom (observed (files_told holds is_sound faults mid new) disk) outcome reached walk
      → AllowsFrom (observed (files_told holds is_sound faults old new) disk) outcome reached walk
  allowed_before reached (Tests test next) (Stopped end ended is) =
      Stopped end (ended_after holds is_sound faults old mid new same kept stays test end ended) is
  allowed_before reached (Tests test next) (Passed value shows follows) =
      Passed value (shown_before holds is_sound faults old mid new same test.source (λ bytes. test.reads bytes (Ok value)) shows)
      (allowed_before reached (next value) follows)
  allowed_before reached (Opens journal next) (NotOpened end ended is) = NotOpened end ended is
  allowed_before reached (Opens journal next) (JournalOpened grants opened follows) =
      JournalOpened grants opened (allowed_before (reached_by journal.purpose journal.text grants) (next grants) follows)
  allowed_before reached (Answers allows) allowed = allowed

-- what holds of the bytes there at the first call holds of them whatever comes after it
shown_first : {F : Type 0} (holds : F → Option Names) (is_sound : F → Type 0) (faults : F → ℕ) (old mid new : F) (source : Source)
    (P : List ℕ → Type 0) → HoldsOfBytes (files_told holds is_sound faults old mid) source P
    → HoldsOfBytes (files_told holds is_sound faults old new) source P
shown_first holds is_sound faults old mid new (Word word) P shows = shows
shown_first holds is_sound faults old mid new (File name) P shows = shows
shown_first holds is_sound faults old mid new Known P shows = shows

-- ---- a disk to which nothing was done

pub untouched_by : {D : Type 0} (d : DiskMeaning D) (disk : D) → ((file : List ℕ) → d.left_since disk (d.moment disk) file → d.may_leave disk file)
    → IsUntouched (disk_seen d disk disk)
untouched_by d disk only_now = untouched d.reads_as d.may_leave d.moment d.left_since d.faults disk only_now

-- ---- the end

-- what is printed and told doesn't speak of what is added
delivered_adding : (sink : SinkTold) (outcome : Outcome) (added unsure : List Grant) (status : Status) → IsDelivered sink outcome status
    → IsDelivered sink (adding outcome added unsure) status
delivered_adding sink outcome added unsure status (Whole is taken all kept) = Whole is taken all kept
delivered_adding sink outcome added unsure status (Cut is some rose) = Cut is some rose

-- the cell was not read
pub ends_unread : {F : Type 0} (f : FilesMeaning F) (old new : F) (disk : DiskTold) (name : List ℕ) (onward : KnownCell → Walk)
    (sink : SinkTold) (end : EarlyEnd) (status : Status) → IsUntouched disk → IsEndedAt (files_seen f old new) (cell_file name) end
    → IsDelivered sink (early end) status → Ends (observed (files_seen f old new) disk) sink (on_cell name onward) status
ends_unread f old new disk name onward sink end status still ended delivered = record {
  outcome = early end;
  allowed = Stopped end ended (refl, still);
  delivered = delivered;
}

-- it was, and the command answered
module _ {F : Type 0} (f : FilesMeaning F) (old mid new : F) (disk : DiskTold) (name : List ℕ) (held : KnownCell) (onward : KnownCell → Walk)
    (shows : ShowsFile (files_seen f old mid) name (λ (bytes : List ℕ). cell_reads bytes (Ok held)))
    (same : f.holds mid ≡ f.holds old) (kept : f.faults mid ≡ f.faults old) (stays : f.is_sound old → f.is_sound mid)
    (sink : SinkTold) (status : Status) where
  passed : (outcome : Outcome) → AllowsFrom (observed (files_seen f mid new) disk) outcome Unasked (onward held)
      → AllowsFrom (observed (files_seen f old new) disk) outcome Unasked (on_cell name onward)
  passed outcome allowed =
      Passed held
      (shown_first f.holds f.is_sound f.faults old mid new (File name) (λ (bytes : List ℕ). cell_reads bytes (Ok held)) shows)
      (allowed_before f.holds f.is_sound f.faults old mid new same kept stays disk outcome Unasked (onward held) allowed)

  pub ends_answered : {A : Type 0} (outcome : A → Outcome) (made : Result A EarlyEnd)
      → IsMade (files_seen f mid new) disk (onward held) outcome made → IsDelivered sink (or_early outcome made) status
      → Ends (observed (files_seen f old new) disk) sink (on_cell name onward) status
  ends_answered outcome made (Allowed allowed) delivered = record {
    outcome = or_early outcome made;
    allowed = passed (or_early outcome made) allowed;
    delivered = delivered;
  }
  ends_answered outcome made (Adding added unsure allowed) delivered = record {
    outcome = adding (or_early outcome made) added unsure;
    allowed = passed (adding (or_early outcome made) added unsure) allowed;
    delivered = delivered_adding sink (or_early outcome made) added unsure status delivered;
  }
  ends_answered outcome made (Starved is still) delivered = record {
    outcome = or_early outcome made;
    allowed = Stopped WantOfMemory (ByMemory refl) (ap (or_early outcome) is, still);
    delivered = delivered;
  }
