-- How the walk of `serve` is gone to its end.
use Rattle.std.specs.Prelude.{IfSome, Ok}
use Rattle.std.proofs.Common.{◌≡◌, ℕ, List, Option, refl, ap, subst}
use Rattle.outside_io.specs.Puts.{SinkTold}
use Rattle.outside_io.specs.Source.{SourceTold}
use Rattle.cell_base.specs.declared.cells.Cell.{Cell}
use Rattle.cell_base.specs.declared.shifts.Grant.{Grant}
use Rattle.journal_format.specs.Replayed.{AreDue, opened_as}
use Rattle.live_cell.specs.LiveState.{LiveState, fresh}
use Rattle.shift_recovery.specs.Opening.{HasFaultCause, IsRefusalOf}
use Rattle.shift_recovery.specs.declared.open_error.OpenFault.{OpenFault}
use Rattle.shift_recovery.specs.declared.open_error.OpenFault.TheVariants as fault
use Rattle.durable_cell.specs.Openings.{IsHandedBack}
use Rattle.live_cell.specs.Openings.{IsOpened}
use Rattle.cell_walks.specs.Allowed.{IsEndedAt, IsNotOpened, JournalOpened, NotOpened, OpeningFailed, OpeningRefused, OpeningStarved, Passed, Unasked}
use Rattle.cell_walks.specs.DiskTold.{DiskTold, IsUntouched, disk_told}
use Rattle.cell_walks.specs.Observed.{FilesTold, ShowsFile, observed_with}
use Rattle.cell_walks.specs.Outcomes.{IsDelivered, early}
use Rattle.cell_walks.specs.Promises.{Ends}
use Rattle.cell_walks.specs.Walks.{Answers, Opens}
use Rattle.cell_walks.specs.declared.early_end.EarlyEnd.{EarlyEnd}
use Rattle.cell_walks.specs.declared.status.Status.{Status}
use Rattle.cell_walks.proofs.Steps.{ended_at}
use Rattle.cell_texts.specs.Tests.{KnownCell, cell_file, cell_reads}
use Rattle.journal_texts.specs.Openings.{end_unopened}
use Rattle.journal_texts.specs.Tests.{to_add}
use Rattle.journal_texts.proofs.Disks.{adds_nothing, only_read}
use Rattle.serve_command.specs.Conversing.{IsServedAfter, IsServedOnJournal}
use Rattle.serve_command.specs.Serve.{IsServed, serve}
use Rattle.serve_command.specs.declared.command.TheConstants.{MAX_SERVED}
use Rattle.serve_command.specs.declared.replies.TheConstants.{MAX_REPLIES}
use Rattle.serve_command.proofs.Standing.{left_told}

module _ (files : FilesTold) (input : SourceTold) (disk : DiskTold) (sink : SinkTold) (name : List ℕ) (status : Status) where
  -- the cell is not read, or memory is wanting
  pub ends_early : (end : EarlyEnd) → IsEndedAt files (cell_file name) end → IsUntouched disk → IsDelivered sink (early end) status
      → Ends (observed_with files input disk) sink (serve name) status
  ends_early end ended still delivered = record {
    outcome = early end;
    allowed = ended_at (observed_with files input disk) Unasked (cell_file name)
        (λ (held : KnownCell). Opens (to_add held MAX_SERVED) λ opening. Answers λ given outcome. IsServed held.cell opening given outcome)
        end ended still;
    delivered = delivered;
  }

  -- it is read
  pub ends_served : (held : KnownCell) → ShowsFile files name (λ bytes. cell_reads bytes (Ok held))
      → IsServedOnJournal disk input sink held status → Ends (observed_with files input disk) sink (serve name) status
  ends_served held shows (NotOpened end not delivered) =
      record { outcome = early end; allowed = Passed held shows (NotOpened end not refl); delivered = delivered }
  ends_served held shows (JournalOpened opening opened (outcome, served, delivered, stands)) =
      record { outcome = outcome; allowed = Passed held shows (JournalOpened opening opened (served, stands)); delivered = delivered }

-- the journal is opened, or not
module _ {D : Type 0} (reads_as : D → Option (List ℕ)) (may_leave : D → List ℕ → Type 0) (moment : D → ℕ)
    (left_since : D → ℕ → List ℕ → Type 0) (faults : D → ℕ) where
  pub opened_so : (held : KnownCell) (disk last : D) (live : LiveState D) (opening : List Grant) (input : SourceTold) (sink : SinkTold)
      (status : Status) → live ≡ fresh held.cell live.disk opening MAX_SERVED MAX_REPLIES → AreDue held.cell opening
      → IfSome (reads_as disk) (λ file. opened_as held.cell file held.text MAX_SERVED ≡ Ok opening)
      → IsOpened reads_as may_leave moment left_since disk held.text opening live.disk → faults live.disk ≡ faults disk
      → IsServedAfter reads_as may_leave moment left_since faults input sink live.cell held.text opening live.disk last status
      → IsServedOnJournal (disk_told reads_as may_leave moment left_since faults disk last) input sink held status
  opened_so held disk last live opening input sink status is due exact opened fed served =
      JournalOpened opening (due, exact) (
        served.outcome,
        subst (λ (cell : Cell). IsServed cell opening input served.outcome) (ap (λ (l : LiveState D). l.cell) is) served.served,
        served.delivered,
        left_told reads_as may_leave moment left_since faults held.text opening served.outcome.added served.outcome.unsure disk
            live.disk last
            opened fed served.left,
      )

  pub not_opened : (held : KnownCell) (old new : D) (why : OpenFault)
      → IsRefusalOf (reads_as old) (λ file. opened_as held.cell file held.text MAX_SERVED) why
      → HasFaultCause (faults old) (faults new) why → IsHandedBack reads_as may_leave moment left_since old held.text new why
      → IsNotOpened (disk_told reads_as may_leave moment left_since faults old new) (to_add held MAX_SERVED) (end_unopened why)
  not_opened held old new (fault.Refused why) refused cause reads =
      OpeningRefused why refused (only_read reads_as may_leave moment left_since faults old new reads) refl
  not_opened held old new fault.Device refused cause either =
      OpeningFailed refl cause (adds_nothing reads_as may_leave moment left_since faults old new held.text either)
  not_opened held old new fault.Memory refused cause reads =
      OpeningStarved refl (only_read reads_as may_leave moment left_since faults old new reads)
