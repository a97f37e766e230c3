-- How the outcomes of `run` come about.
use Rattle.std.specs.Prelude.{IfSome}
use Rattle.std.proofs.Common.{◌≡◌, ℕ, false, List, Option, Result, Ok, Err, refl, sym, ap, ◌∙◌, subst}
use Rattle.outside_io.specs.Files.{Names}
use Rattle.cell_base.specs.declared.shifts.Grant.{Grant}
use Rattle.cell_base.specs.declared.shifts.Shift.{Shift}
use Rattle.cell_base.specs.Fits.{ShiftFits}
use Rattle.cell_base.specs.Scripts.{begin_at, holds_halt, first_step}
use Rattle.cell_base.specs.Starts.{AreFirstSteps}
use Rattle.durable_cell.specs.DurableState.{DurableState}
use Rattle.durable_cell.specs.Openings.{fresh}
use Rattle.journal_format.specs.Replayed.{AreDue, opened_as}
use Rattle.shift_file.specs.Walk.{shift_of}
use Rattle.cell_walks.specs.Allowed.{ByMemory, ByRefusal, IsAllowed, IsEndedAt, JournalOpened}
use Rattle.cell_walks.specs.Allowed.{NotOpened, Opened, Passed, Stopped, Unasked, AllowsFrom}
use Rattle.cell_walks.specs.DiskTold.{DiskTold, IsUntouched, disk_told}
use Rattle.cell_walks.specs.Observed.{File, FilesTold, Observed, HoldsOfBytes, files_told, observed}
use Rattle.cell_walks.specs.Outcomes.{Outcome, early, or_early}
use Rattle.cell_walks.specs.Walks.{Answers, Opens, Tests, Walk}
use Rattle.cell_walks.specs.declared.early_end.EarlyEnd.{EarlyEnd}
use Rattle.cell_walks.proofs.TwoTests.{both_passed, first_ended, second_ended}
use Rattle.cell_texts.specs.Tests.{KnownCell, cell_file, cell_reads, shift_file}
use Rattle.journal_texts.specs.Tests.{to_add}
use Rattle.journal_texts.specs.Recorded.{IsAskedUnder, IsHaltedIn, IsUnhaltedIn, recorded_outcome}
use Rattle.journal_texts.specs.Records.{IsRecordedOrHalted}
use Rattle.run_command.specs.Run.{IsShiftRun, RanPart, RanWhole, run, run_room}
use Rattle.journal_texts.specs.Starting.{other_shift, start_test}
use Rattle.journal_texts.specs.declared.recorded.Recorded.{Recorded}
use Rattle.journal_texts.proofs.Recording.{recorded_so}
use Rattle.run_command.specs.JournalRuns.{EndsAtStart, HasStarted, IsAfterSessions, IsRunOnJournal, StartRefused, StartStarved}
use Rattle.record_printer.proofs.Fitted.{requests_fit}
use Rattle.run_command.proofs.RunHistories.{traces, whole_traces}

-- ---- the record

module _ {D : Type 0} (shift : Shift) (durable : DurableState D) (started : AreFirstSteps shift durable.opening)
    (behind : IsAfterSessions shift durable) where
  -- everything was asked under the shift's number
  pub asked_under : ShiftFits durable.cell shift → IsAskedUnder shift.number durable
  asked_under fits = record {
    added = behind.added;
    unsure = behind.unsure;
    requests = requests_fit durable.cell shift durable.history fits (λ session. begin_at (first_step shift session durable.opening))
        behind.sessions (traces shift durable.opening durable.history started behind.sessions behind.gone);
  }

  whole_history : holds_halt durable.history ≡ false → RanWhole shift durable.opening durable.history
  whole_history no_halt =
      (behind.sessions, whole_traces shift durable.opening durable.history started behind.sessions behind.gone no_halt)

  part_history : RanPart shift durable.opening durable.history
  part_history = (behind.sessions, traces shift durable.opening durable.history started behind.sessions behind.gone)

  -- its record is that of the run
  pub shift_run : (outcome : Outcome)
      → IsRecordedOrHalted durable.cell shift.number durable.opening (IsUnhaltedIn durable) (IsHaltedIn durable) outcome
      → IsShiftRun durable.cell shift durable.opening outcome
  shift_run outcome =
      recorded_so durable.cell shift.number durable.opening (IsUnhaltedIn durable) (RanWhole shift durable.opening) (IsHaltedIn durable)
      (RanPart shift durable.opening)
      (λ history is. subst (RanWhole shift durable.opening) (sym is.0) (whole_history (sym (ap holds_halt is.0) ∙ is.1)))
      (λ history is. subst (RanPart shift durable.opening) (sym is.0) part_history) outcome

-- ---- the journal

-- a run on a journal that was opened
pub run_opened : {D : Type 0} (reads_as : D → Option (List ℕ)) (may_leave : D → List ℕ → Type 0) (moment : D → ℕ)
    (left_since : D → ℕ → List ℕ → Type 0) (faults : D → ℕ) (held : KnownCell) (shift : Shift) (disk new : D) (durable : DurableState D)
    (limit : ℕ) (made : Result Recorded EarlyEnd) → durable
    ≡ fresh held.cell held.text disk durable.found durable.disk durable.opening limit
    → IfSome (reads_as disk) (λ file. opened_as held.cell file held.text (run_room shift) ≡ Ok durable.opening)
    → AreDue durable.cell durable.opening
    → HasStarted (disk_told reads_as may_leave moment left_since faults durable.entry new) durable.cell durable.text shift durable.opening
    made
    → IsRunOnJournal (disk_told reads_as may_leave moment left_since faults disk new) held shift made
run_opened {D} reads_as may_leave moment left_since faults held shift disk new durable limit made is exact due started =
    JournalOpened durable.opening (subst (λ (d : DurableState D). AreDue d.cell durable.opening) is due, exact)
    (subst (λ (d : DurableState D). HasStarted (disk_told reads_as may_leave moment left_since faults d.entry new) d.cell d.text shift
    durable.opening made) is started)

-- ---- the walk

-- the command ended at the start of the sessions
at_start : (files : FilesTold) (shift : Shift) (opening : List Grant) (end : EarlyEnd) → EndsAtStart shift opening end
    → IsEndedAt files (start_test shift opening) end
at_start files shift opening end (StartRefused session other is) = ByRefusal session other (other_shift session) refl is
at_start files shift opening end (StartStarved is) = ByMemory is

module _ (seen : Observed) (held : KnownCell) (shift : Shift) where
  -- the sessions, and what the walk answers after them
  abbrev sessions : List Grant → Walk
  sessions opening = Tests (start_test shift opening) λ started. Answers λ input outcome. IsShiftRun held.cell shift opening outcome

  from_start : (opening : List Grant) (made : Result Recorded EarlyEnd) → HasStarted seen.disk held.cell held.text shift opening made
      → AllowsFrom seen (or_early recorded_outcome made) (Opened held.text opening) (sessions opening)
  from_start opening (Ok recorded) started = Passed tt started.0 (started.1, started.2)
  from_start opening (Err end) ended = Stopped end (at_start seen.files shift opening end ended.0) (refl, ended.1)

  from_journal : (made : Result Recorded EarlyEnd) → IsRunOnJournal seen.disk held shift made
      → AllowsFrom seen (or_early recorded_outcome made) Unasked (Opens (to_add held (run_room shift)) sessions)
  from_journal made (NotOpened end ended is) = NotOpened end ended (ap (or_early recorded_outcome) is)
  from_journal made (JournalOpened opening opened started) = JournalOpened opening opened (from_start opening made started)

  abbrev journal : Walk
  journal = Opens (to_add held (run_room shift)) sessions

module _ {F : Type 0} (holds : F → Option Names) (is_sound : F → Type 0) (faults : F → ℕ) (disk : DiskTold) (cell shift_name : List ℕ) where
  -- the cell was not read
  pub run_unread : (old new : F) (end : EarlyEnd) → IsUntouched disk
      → IsEndedAt (files_told holds is_sound faults old new) (cell_file cell) end
      → IsAllowed (observed (files_told holds is_sound faults old new) disk) (run cell shift_name) (early end)
  run_unread old new =
      first_ended holds is_sound faults disk (cell_file cell) (λ held. shift_file held.cell shift_name)
      (journal (observed (files_told holds is_sound faults old new) disk)) old new

  module _ (old mid new : F) (held : KnownCell)
      (shows : HoldsOfBytes (files_told holds is_sound faults old mid) (File cell) (λ bytes. cell_reads bytes (Ok held)))
      (same : holds mid ≡ holds old) where
    abbrev seen : Observed
    seen = observed (files_told holds is_sound faults old new) disk

    -- the shift was not
    pub run_without_shift : (end : EarlyEnd) → IsUntouched disk → faults mid ≡ faults old → (is_sound old → is_sound mid)
        → IsEndedAt (files_told holds is_sound faults mid new) (shift_file held.cell shift_name) end
        → IsAllowed seen (run cell shift_name) (early end)
    run_without_shift =
        second_ended holds is_sound faults disk (cell_file cell) (λ known. shift_file known.cell shift_name) (journal seen)
        old mid new held shows same

    -- both were, and the shift ran on the journal, or the command ended there
    pub run_on_disk : (shift : Shift) (made : Result Recorded EarlyEnd)
        → HoldsOfBytes (files_told holds is_sound faults mid new) (File shift_name) (λ bytes. shift_of held.cell bytes ≡ Ok shift)
        → IsRunOnJournal disk held shift made
        → IsAllowed seen (run cell shift_name) (or_early recorded_outcome made)
    run_on_disk shift made read ran =
        both_passed holds is_sound faults disk (cell_file cell) (λ known. shift_file known.cell shift_name) (journal seen)
        old mid new held shows same shift (or_early recorded_outcome made) read
        (from_journal seen held shift made ran)
