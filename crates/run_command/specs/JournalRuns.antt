-- A shift that runs on a journal: its sessions under the lock, and how the run comes about.
use Rattle.std.specs.Prelude.{◌≡◌, ◌⊎◌, ℕ, ◌*◌, ◌≤◌, true, List, [], Result, Ok, Err, length}
use Rattle.std.specs.List.{All}
use mathlib.Core.List.{IsPrefix}
use Rattle.cell_base.specs.declared.cells.Cell.{Cell}
use Rattle.cell_base.specs.declared.shifts.Entry.{Entry}
use Rattle.cell_base.specs.declared.shifts.Grant.{Grant}
use Rattle.cell_base.specs.declared.shifts.Shift.{Shift}
use Rattle.cell_base.specs.Fits.{steps_of}
use Rattle.cell_base.specs.Histories.{entries_of, grants}
use Rattle.cell_base.specs.Rounds.{IsSession}
use Rattle.cell_base.specs.Scripts.{IsTrace, IsWholeTrace, begin_at, holds_halt, script_of, first_step}
use Rattle.cell_base.specs.Starts.{AreFirstSteps, IsOtherShift}
use Rattle.durable_cell.specs.Asked.{unsure_grant}
use Rattle.durable_cell.specs.DurableState.{DurableState}
use Rattle.cell_walks.specs.Allowed.{AtOpening, StandsForAdded}
use Rattle.cell_walks.specs.DiskTold.{DiskTold}
use Rattle.cell_walks.specs.Walks.{refusal_of}
use Rattle.cell_walks.specs.declared.early_end.EarlyEnd.{EarlyEnd}
use Rattle.cell_walks.specs.declared.early_end.EarlyEnd.TheVariants.{WantOfMemory, Refused}
use Rattle.cell_texts.specs.Tests.{KnownCell}
use Rattle.journal_texts.specs.Tests.{to_add}
use Rattle.journal_texts.specs.Recorded.{recorded_outcome}
use Rattle.run_command.specs.Run.{IsShiftRun, run_room}
use Rattle.journal_texts.specs.Starting.{other_shift, start_test}
use Rattle.journal_texts.specs.declared.recorded.Recorded.{Recorded}

-- ---- the sessions

-- The session's entries in the history go through its script, up to its end; or up to a fault, and then a prefix of the history
-- halts, or has as many entries as all steps together may be asked.
pub record HasGone (shift : Shift) (opening : List Grant) (history : List Entry) (session : ℕ) : Type 0 where
  pub trace : IsTrace (script_of shift session) shift.patience (begin_at (first_step shift session opening)) (entries_of session history)
  pub seen : List Entry
  pub begins : IsPrefix seen history
  pub ended : IsWholeTrace (script_of shift session) shift.patience (begin_at (first_step shift session opening))
      (entries_of session history)
      ⊎ ((holds_halt seen ≡ true) ⊎ (steps_of shift * shift.patience ≤ length seen))

-- The durable cell after the sessions of a shift: its history is theirs alone, and what it added are the grants of this history.
pub record IsAfterSessions {D : Type 0} (shift : Shift) (durable : DurableState D) : Type 0 where
  pub added : durable.added ≡ grants shift.number durable.history
  pub unsure : durable.unsure ≡ unsure_grant shift.number durable.history
  pub sessions : All (λ entry. IsSession shift entry.session) durable.history
  pub gone : (session : ℕ) → IsSession shift session → HasGone shift durable.opening durable.history session

-- ---- how a run comes about

-- an end before the sessions, after these grants: they are another shift's, or memory is wanting
pub data EndsAtStart (shift : Shift) (opening : List Grant) (end : EarlyEnd) : Type 0 where
  StartRefused : (session : ℕ) → IsOtherShift shift opening session
      → end ≡ Refused (refusal_of (start_test shift opening) (other_shift session)) → EndsAtStart shift opening end
  StartStarved : end ≡ WantOfMemory → EndsAtStart shift opening end

-- the sessions started after these grants and ran, or the command ended there and nothing was added
abbrev pub HasStarted : DiskTold → Cell → List ℕ → Shift → List Grant → Result Recorded EarlyEnd → Type 0
HasStarted disk cell text shift opening (Ok recorded) = let outcome = recorded_outcome recorded in
    AreFirstSteps shift opening × IsShiftRun cell shift opening outcome × StandsForAdded disk text opening outcome.added outcome.unsure
HasStarted disk cell text shift opening (Err end) = EndsAtStart shift opening end × StandsForAdded disk text opening [] []

-- the journal of this cell was opened and the shift ran on it, or the command ended there
abbrev pub IsRunOnJournal : DiskTold → KnownCell → Shift → Result Recorded EarlyEnd → Type 0
IsRunOnJournal disk held shift made = AtOpening disk (to_add held (run_room shift)) (λ end. made ≡ Err end)
    (λ opening. HasStarted disk held.cell held.text shift opening made)
