-- Rounds that are under way.
use Rattle.std.specs.Prelude.{◌≡◌, ◌⊎◌, ℕ, ◌+◌, ◌-◌, ◌*◌, ◌<◌, ◌≤◌, nat_lt, if◌then◌else◌, false}
use Rattle.std.specs.Prelude.{Some, List, [], ◌∷◌, length, slice_get, slice_index_or}
use Rattle.std.specs.List.{All, AllPairs}
use Rattle.cell_base.specs.declared.limits.TheConstants.{MAX_SESSIONS}
use Rattle.cell_base.specs.declared.cells.Cell.{Cell}
use Rattle.cell_base.specs.declared.requests.Part.{Part}
use Rattle.cell_base.specs.declared.requests.Request.{Request}
use Rattle.cell_base.specs.declared.requests.Told.TheVariants.{Answered}
use Rattle.cell_base.specs.declared.shifts.Entry.{Entry}
use Rattle.cell_base.specs.declared.shifts.Shift.{Shift}
use Rattle.cell_base.specs.Outcomes.{reply_to, state_after}
use Rattle.cell_base.specs.Histories.{IsLegal, after, entries_of}
use Rattle.cell_base.specs.Scripts.{Progress, begin_at, progress_after, progress_through, IsTrace, HasEnded, holds_halt, script_of}
use Rattle.cell_base.specs.Rounds.{Precedes, turns_after, IsSession}
use Rattle.admission_core.specs.CoreState.{CoreState}

-- a session asks its present step: the outcome is told, and the session goes on by it
pub record AsksStep (old new : CoreState) (session : ℕ) (script : List Request) (at next : Progress) (asked : Entry) : Type 0 where
  pub request : Request
  pub step : slice_get script at.step ≡ Some request
  pub entry : asked ≡ record { session = session; request = request; told = Answered (reply_to old.cell old.parts request) }
  pub state : new ≡ record old { parts = state_after old.cell old.parts request }
  pub goes_on : next ≡ progress_after at (Answered (reply_to old.cell old.parts request))

-- where session k + 1 stands
abbrev pub progress_at : List Progress → ℕ → Progress
progress_at progress k = slice_index_or progress k (begin_at 0)

-- the asks that a session has left at most
abbrev pub script_asks_left : ℕ → List Request → Progress → ℕ
script_asks_left patience script at = (length script - at.step) * patience - at.refusals

-- the asks that all sessions have left at most, one progress a script
abbrev pub asks_left : ℕ → List (List Request) → List Progress → ℕ
asks_left patience [] progress = 0
asks_left patience (script ∷ scripts) [] = 0
asks_left patience (script ∷ scripts) (at ∷ progress) = script_asks_left patience script at + asks_left patience scripts progress

-- within the script and the patience
pub record IsWithinScript (script : List Request) (patience : ℕ) (at : Progress) : Type 0 where
  pub step : at.step ≤ length script
  pub refusals : at.refusals ≤ patience

-- the sessions can go on, and there is room for all that they may still ask
pub record IsReady (shift : Shift) (progress : List Progress) (spare : ℕ) : Type 0 where
  pub count : length progress ≡ MAX_SESSIONS
  pub within : (k : ℕ) → k < length shift.scripts → IsWithinScript (script_of shift (k + 1)) shift.patience (progress_at progress k)
  pub room : asks_left shift.patience shift.scripts progress ≤ spare

-- the same with room for no more than that
abbrev pub CanGoOn : Shift → List Progress → Type 0
CanGoOn shift progress = IsReady shift progress (asks_left shift.patience shift.scripts progress)

-- session k + 1 has ended
abbrev pub HasEndedAt : Shift → List Progress → ℕ → Type 0
HasEndedAt shift progress k = HasEnded (script_of shift (k + 1)) shift.patience (progress_at progress k)

-- the first n sessions have ended
abbrev pub HaveEnded : Shift → List Progress → ℕ → Type 0
HaveEnded shift progress n = (k : ℕ) → k < n → HasEndedAt shift progress k

-- the sessions from one place up to another have ended
abbrev pub HaveEndedFrom : Shift → List Progress → ℕ → ℕ → Type 0
HaveEndedFrom shift progress from to = (k : ℕ) → from ≤ k → k < to → HasEndedAt shift progress k

-- session k + 1 goes on, and those that would have their turn before it have ended: those from place `next` up to it, or those from there
-- to the last and from the first up to it
pub record IsNextGoing (shift : Shift) (progress : List Progress) (next k : ℕ) : Type 0 where
  pub within : k < length shift.scripts
  pub going : HasEndedAt shift progress k → ⊥
  pub before : (next ≤ k) × HaveEndedFrom shift progress next k
      ⊎ HaveEndedFrom shift progress next (length shift.scripts) × HaveEndedFrom shift progress 0 k

-- the entries of session k + 1 bring it where it stands. In turn number `turn` the first `done` sessions have had their asks, so
-- a session that goes on has asked once in each turn
pub record IsAtTurn (shift : Shift) (history : List Entry) (progress : List Progress) (turn done k : ℕ) : Type 0 where
  pub trace : IsTrace (script_of shift (k + 1)) shift.patience (begin_at 0) (entries_of (k + 1) history)
  pub stands : progress_through (begin_at 0) (entries_of (k + 1) history) ≡ progress_at progress k
  pub asked : (HasEndedAt shift progress k → ⊥) → length (entries_of (k + 1) history) ≡ turn + (if nat_lt k done then 1 else 0)

-- the entries of rounds that bring the sessions where they stand, of which the first `done` have had their asks of this turn
pub record AreUnderway (shift : Shift) (entries : List Entry) (progress : List Progress) (turn done : ℕ) : Type 0 where
  pub unhalted : holds_halt entries ≡ false
  pub each : (k : ℕ) → k < length shift.scripts → IsAtTurn shift entries progress turn done k
  pub sessions : All (λ entry. IsSession shift entry.session) entries
  pub rising : AllPairs Precedes (turns_after [] entries)
  pub earlier : All (λ t. Precedes t (record { turn = turn; session = done + 1 })) (turns_after [] entries)

-- a history of rounds from the parts `start` to the parts `now`
pub record IsUnderway (shift : Shift) (cell : Cell) (start now : List Part) (history : List Entry)
    (progress : List Progress) (turn done : ℕ) : Type 0 where
  pub legal : IsLegal cell start history
  pub state : now ≡ after cell start history
  pub rounds : AreUnderway shift history progress turn done
