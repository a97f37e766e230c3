-- Rounds, one ask at a time.
use Rattle.std.specs.Prelude.{ℕ, ◌≤◌, List, length}
use Rattle.cell_base.specs.declared.requests.Part.{Part}
use Rattle.cell_base.specs.declared.shifts.Entry.{Entry}
use Rattle.cell_base.specs.declared.shifts.Shift.{Shift}
use Rattle.admission_core.specs.CoreState.{CoreState}
use Rattle.solo_rounds.specs.Underway.{CanGoOn, IsUnderway, asks_left}
use Rattle.solo_rounds.specs.Standing.{Standing}

-- the asks that all sessions have left at most
abbrev pub asks_left_in : Shift → Standing → ℕ
asks_left_in shift rounds = asks_left shift.patience shift.scripts rounds.progress

-- the sessions can go on from where they stand, and the next turn is that of one of them, or a round is over
pub record AreReady (shift : Shift) (rounds : Standing) : Type 0 where
  pub ready : CanGoOn shift rounds.progress
  pub next : rounds.next ≤ length shift.scripts

-- a history of rounds from the parts `start` on, in some turn of which the sessions stand so, and the core is in the state after it
pub record AreAsking (shift : Shift) (core : CoreState) (start : List Part) (history : List Entry) (rounds : Standing) : Type 0 where
  pub turn : ℕ
  pub underway : IsUnderway shift core.cell start core.parts history rounds.progress turn rounds.next
