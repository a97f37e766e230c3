-- How the outcomes of `begin` come about.
use Rattle.std.specs.Prelude.{IfSome}
use Rattle.std.proofs.Common.{◌≡◌, ℕ, List, Option, Result, Ok, Err, refl, ap, subst}
use Rattle.cell_base.specs.declared.requests.Request.{Request}
use Rattle.cell_base.specs.declared.shifts.Grant.{Grant}
use Rattle.durable_cell.specs.DurableState.{DurableState}
use Rattle.durable_cell.specs.Openings.{fresh}
use Rattle.journal_format.specs.Replayed.{AreDue, opened_as}
use Rattle.durable_cell.specs.declared.replays.TheConstants.{MAX_ROOM}
use Rattle.record_text.specs.StartFiles.{start_reads}
use Rattle.cell_walks.specs.Allowed.{AllowsFrom, ByMemory, ByRefusal, IsEndedAt, JournalOpened}
use Rattle.cell_walks.specs.Allowed.{NotOpened, Opened, Passed, Stopped, Unasked}
use Rattle.cell_walks.specs.DiskTold.{DiskTold, IsUntouched, disk_told}
use Rattle.cell_walks.specs.Observed.{FilesTold, Observed, ShowsFile, observed}
use Rattle.cell_walks.specs.Outcomes.{or_early}
use Rattle.cell_walks.specs.Walks.{Opens, Tests, Walk}
use Rattle.cell_walks.specs.declared.early_end.EarlyEnd.{EarlyEnd}
use Rattle.cell_walks.proofs.Steps.{ended_at}
use Rattle.journal_texts.specs.Recorded.{recorded_outcome}
use Rattle.cell_texts.specs.Tests.{KnownCell}
use Rattle.cell_driver.specs.Driving.{Allowed, IsMade}
use Rattle.journal_texts.specs.Tests.{to_add}
use Rattle.journal_texts.specs.declared.recorded.Recorded.{Recorded}
use Rattle.carry_commands.specs.Begin.{begin_start, goes_on}
use Rattle.carry_commands.specs.Beginning.{EndsBeforeJournal, HasBegun, IsBegunOnJournal, IsGrantedStart, StartRefused, StartStarved}
use Rattle.carry_commands.specs.Refusals.{other_start, start_refused}
use Rattle.carry_commands.specs.Starts.{begun, grants_start, start_file}

-- what was begun in a durable cell that was opened
pub begun_opened : {D : Type 0} (reads_as : D → Option (List ℕ)) (may_leave : D → List ℕ → Type 0) (moment : D → ℕ)
    (left_since : D → ℕ → List ℕ → Type 0) (faults : D → ℕ) (held : KnownCell) (requests : List Request) (disk new : D)
    (durable : DurableState D) (limit : ℕ) (made : Result Recorded EarlyEnd)
    → durable ≡ fresh held.cell held.text disk durable.found durable.disk durable.opening limit
    → IfSome (reads_as disk) (λ file. opened_as held.cell file held.text MAX_ROOM ≡ Ok durable.opening)
    → AreDue durable.cell durable.opening
    → HasBegun (disk_told reads_as may_leave moment left_since faults durable.entry new) durable.cell durable.text requests durable.opening
    made
    → IsBegunOnJournal (disk_told reads_as may_leave moment left_since faults disk new) held requests made
begun_opened {D} reads_as may_leave moment left_since faults held requests disk new durable limit made is exact due begun =
    JournalOpened durable.opening (subst (λ (d : DurableState D). AreDue d.cell durable.opening) is due, exact)
    (subst (λ (d : DurableState D). HasBegun (disk_told reads_as may_leave moment left_since faults d.entry new) d.cell d.text requests
    durable.opening made) is begun)

-- ---- the walk

module _ (seen : Observed) (held : KnownCell) (requests : List Request) where
  from_grants : (opening : List Grant) (made : Result Recorded EarlyEnd) → HasBegun seen.disk held.cell held.text requests opening made
      → AllowsFrom seen (or_early recorded_outcome made) (Opened held.text opening) (goes_on held requests opening)
  from_grants opening (Ok recorded) has = Passed tt has.0 (has.1, has.2)
  from_grants opening (Err end) (other, stands) =
      Stopped end (ByRefusal other.0 other.1 (other_start other.0) refl other.2) (refl, stands)

  from_journal : (made : Result Recorded EarlyEnd) → IsBegunOnJournal seen.disk held requests made
      → AllowsFrom seen (or_early recorded_outcome made) Unasked (Opens (to_add held MAX_ROOM) (goes_on held requests))
  from_journal made (NotOpened end ended is) = NotOpened end ended (ap (or_early recorded_outcome) is)
  from_journal made (JournalOpened opening opened has) = JournalOpened opening opened (from_grants opening made has)

  at_start : (end : EarlyEnd) → EndsBeforeJournal held.cell requests end → IsEndedAt seen.files (grants_start held.cell requests) end
  at_start end (StartRefused fault is ends) = ByRefusal fault is (start_refused held.cell fault) refl ends
  at_start end (StartStarved is) = ByMemory is

-- what comes after the start file
abbrev tried : KnownCell → List Request → Walk
tried held requests = Tests (grants_start held.cell requests) λ granted. Opens (to_add held MAX_ROOM) (goes_on held requests)

module _ (files : FilesTold) (disk : DiskTold) (held : KnownCell) (start : List ℕ) where
  -- the start was not read
  pub begin_without_start : (end : EarlyEnd) → IsUntouched disk → IsEndedAt files (start_file held.cell start) end
      → IsMade files disk (begin_start start held) recorded_outcome (Err end)
  begin_without_start end still ended =
      Allowed (ended_at (observed files disk) Unasked (start_file held.cell start) (tried held) end ended still)

  module _ (requests : List Request) (read : ShowsFile files start (λ bytes. start_reads held.cell bytes (Ok requests))) where
    -- a request of it is not granted
    pub begin_refused : (end : EarlyEnd) → IsUntouched disk → EndsBeforeJournal held.cell requests end
        → IsMade files disk (begin_start start held) recorded_outcome (Err end)
    begin_refused end still ended =
        Allowed
        (Passed requests read
        (ended_at (observed files disk) Unasked (grants_start held.cell requests)
        (λ granted. Opens (to_add held MAX_ROOM) (goes_on held requests)) end
        (at_start (observed files disk) held requests end ended) still))

    -- each is; and the journal was begun, or the command ended there
    pub begin_on_disk : (made : Result Recorded EarlyEnd) → IsGrantedStart held.cell requests → IsBegunOnJournal disk held requests made
        → IsMade files disk (begin_start start held) recorded_outcome made
    begin_on_disk made granted has =
        Allowed (Passed requests read (Passed tt granted (from_journal (observed files disk) held requests made has)))
