-- `run CELL SHIFT JOURNAL`: the sessions of a shift at the same time, after the grants of the journal.
use Rattle.std.specs.Prelude.{ℕ, ◌-◌, List}
use Rattle.std.specs.List.{All}
use Rattle.cell_base.specs.declared.cells.Cell.{Cell}
use Rattle.cell_base.specs.declared.requests.Request.{Request}
use Rattle.cell_base.specs.declared.shifts.Entry.{Entry}
use Rattle.cell_base.specs.declared.shifts.Grant.{Grant}
use Rattle.cell_base.specs.declared.shifts.Shift.{Shift}
use Rattle.cell_base.specs.Fits.{steps_of}
use Rattle.cell_base.specs.Histories.{entries_of}
use Rattle.cell_base.specs.Rounds.{IsSession}
use Rattle.cell_base.specs.Scripts.{Progress, IsTrace, IsWholeTrace, begin_at, script_of, first_step}
use Rattle.durable_cell.specs.declared.replays.TheConstants.{MAX_BEFORE_DRAIN}
use Rattle.cell_walks.specs.Outcomes.{Outcome}
use Rattle.cell_walks.specs.Walks.{Walk, Tests, Opens, Answers}
use Rattle.cell_texts.specs.Tests.{cell_file, shift_file}
use Rattle.journal_texts.specs.Tests.{to_add}
use Rattle.journal_texts.specs.Starting.{start_test}
use Rattle.journal_texts.specs.Records.{IsRecordedOrHalted}

-- how many grants a journal may have before a shift: so many that it has room for the steps of the shift and of a drain after it
abbrev pub run_room : Shift → ℕ
run_room shift = MAX_BEFORE_DRAIN - steps_of shift

-- so the entries of each session go through its script, from the step on that it has reached by the grants
abbrev pub EachSession : (List Request → ℕ → Progress → List Entry → Type 0) → Shift → List Grant → List Entry → Type 0
EachSession Goes shift opening history = (session : ℕ) → IsSession shift session
    → Goes (script_of shift session) shift.patience (begin_at (first_step shift session opening)) (entries_of session history)

-- every entry is a session's, and the sessions went through their scripts, to their ends
abbrev pub RanWhole : Shift → List Grant → List Entry → Type 0
RanWhole shift opening history =
    All (λ entry. IsSession shift entry.session) history × EachSession IsWholeTrace shift opening history

-- the same up to a halt
abbrev pub RanPart : Shift → List Grant → List Entry → Type 0
RanPart shift opening history =
    All (λ entry. IsSession shift entry.session) history × EachSession IsTrace shift opening history

-- the sessions of the shift ran after these grants
abbrev pub IsShiftRun : Cell → Shift → List Grant → Outcome → Type 0
IsShiftRun cell shift opening outcome =
    IsRecordedOrHalted cell shift.number opening (RanWhole shift opening) (RanPart shift opening) outcome

abbrev pub run : List ℕ → List ℕ → Walk
run cell shift =
    Tests (cell_file cell) λ held.
    Tests (shift_file held.cell shift) λ s.
    Opens (to_add held (run_room s)) λ opening.
    Tests (start_test s opening) λ started.
    Answers λ input outcome. IsShiftRun held.cell s opening outcome
