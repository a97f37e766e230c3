-- Rounds over a board that are under way.
use Rattle.std.specs.Prelude.{◌≡◌, ℕ, zero, suc, ◌+◌, ◌*◌, ◌<◌, ◌≤◌, List, length}
use Rattle.std.specs.List.{All}
use Rattle.cell_base.specs.declared.limits.TheConstants.{MAX_ASKS, MAX_SESSIONS}
use Rattle.cell_base.specs.declared.shifts.Shift.{Shift}
use Rattle.cell_base.specs.Fits.{ShiftFits, steps_of}
use Rattle.cell_base.specs.Rounds.{IsSession}
use Rattle.cell_base.specs.Scripts.{Progress, script_of}
use Rattle.solo_rounds.specs.Underway.{IsWithinScript, script_asks_left, progress_at}
use Rattle.wait_queue.specs.declared.waiter.Waiter.{Waiter}
use Rattle.wait_board.specs.declared.entries.BoardEntry.{BoardEntry}
use Rattle.wait_board.specs.Boards.{OnBoard, asks_of}
use Rattle.wait_board.specs.BoardState.{AreApart, BoardState}
use Rattle.board_rounds.specs.Rounds.{progress_in}

-- the sum of a number of each session, 1 to n
abbrev pub sum_to : (ℕ → ℕ) → ℕ → ℕ
sum_to of zero = 0
sum_to of (suc n) = sum_to of n + of (suc n)

-- the asks that a session has left at most, after a history
abbrev pub left_in : Shift → List BoardEntry → ℕ → ℕ
left_in shift history session = script_asks_left shift.patience (script_of shift session) (progress_in history session)

-- a session is at a step of its script, with patience left
pub record HasStep (shift : Shift) (history : List BoardEntry) (session : ℕ) : Type 0 where
  pub known : IsSession shift session
  pub step : (progress_in history session).step < length (script_of shift session)
  pub patience : (progress_in history session).refusals < shift.patience

-- Each session is within its script, and one that waits at a step; each ask takes one from what is left, when it is answered or at the
-- end of its wait, and the history has at most two entries for each ask.
pub record IsGoing (shift : Shift) (waiters : List Waiter) (history : List BoardEntry) : Type 0 where
  pub apart : AreApart waiters
  pub within : (session : ℕ) → IsSession shift session
      → IsWithinScript (script_of shift session) shift.patience (progress_in history session)
  pub waiting : All (λ (waiter : Waiter). HasStep shift history waiter.session) waiters
  pub sessions : All (λ (entry : BoardEntry). IsSession shift entry.session) history
  pub few : length (asks_of history) + sum_to (left_in shift history) (length shift.scripts)
      ≤ steps_of shift * shift.patience + length waiters
  pub room : length history + length waiters ≤ 2 * length (asks_of history)

-- the progress of each session is that after the history
pub record Stands (progress : List Progress) (history : List BoardEntry) : Type 0 where
  pub count : length progress ≡ MAX_SESSIONS
  pub each : (k : ℕ) → k < MAX_SESSIONS → progress_at progress k ≡ progress_in history (k + 1)

-- the sessions of a board can go on, and there is room for all that they may still ask
pub record IsReady (shift : Shift) (progress : List Progress) (board : BoardState) : Type 0 where
  pub fits : ShiftFits board.cell shift
  pub sessions : board.sessions ≡ length shift.scripts
  pub going : IsGoing shift board.on.waiters board.on.history
  pub stands : Stands progress board.on.history
  pub room : 2 * MAX_ASKS ≤ board.spare + length board.on.history

-- a board on which this stands now; the rest is as before, but for the room that the entries took
pub record HasBecome (old : BoardState) (on : OnBoard) (new : BoardState) : Type 0 where
  pub is : new ≡ record old { on = on; spare = new.spare }
  pub spare : new.spare + length new.on.history ≡ old.spare + length old.on.history
