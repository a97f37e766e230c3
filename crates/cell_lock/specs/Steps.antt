-- What the steps at a seat say.
use Rattle.std.specs.Prelude.{◌≡◌, ℕ, None, Bool, false, true, Result, Ok, Err, List, [], ◌∷◌, ◌++◌, map, length}
use Rattle.atomic_table.specs.Seated.{TableId}
use Rattle.atomic_table.specs.declared.shared.Seat.{Seat}
use Rattle.cell_base.specs.declared.requests.Reply.{Reply}
use Rattle.cell_base.specs.declared.shifts.Entry.{Entry}
use Rattle.durable_cell.specs.DurableState.{DurableState}
use Rattle.durable_cell.specs.declared.fault.AskFault.{AskFault}
use Rattle.durable_cell.specs.declared.fault.AskFault.TheVariants.{Halted, Full, Device}
use Rattle.cell_lock.specs.declared.board.Opening.{Opening}
use Rattle.cell_lock.specs.declared.board.View.{View}
use Rattle.cell_lock.specs.Passes.{LockId, PassState, all_answers}

-- two words and one slot
abbrev pub IsWide : TableId → Type 0
IsWide table = (table.words ≡ 2) × (table.slots ≡ 1)

-- the seat is still of this table, of this lock's opening and of this number
pub record IsSame {D : Type 0} (old new : Seat (DurableState D) (View D)) : Type 0 where
  pub table : new.table_id ≡ old.table_id
  pub opening : new.me.0.opening ≡ old.me.0.opening
  pub number : new.me.0.first ≡ old.me.0.first

-- this history is what was seen, and then an entry of the view's own number
pub record GrewBy {D : Type 0} (v : View D) (log : List Entry) : Type 0 where
  pub entry : Entry
  pub ends : log ≡ v.log ++ entry ∷ []
  pub own : entry.session ≡ v.first

-- the answer is an entry of the history
abbrev pub adds_entry : Result Reply AskFault → Bool
adds_entry (Ok reply) = true
adds_entry (Err (Device at)) = true
adds_entry (Err (Halted at)) = false
adds_entry (Err (Full len)) = false

-- the lock that the seat is of
abbrev pub lock_of : {D : Type 0} → Seat (DurableState D) (View D) → LockId D
lock_of seat = record { table = seat.table_id; opening = seat.me.0.opening }

-- the view that has taken in these passes, of which the first has this number
abbrev pub gathering : {D : Type 0} → Opening D → ℕ → List (PassState D) → View D
gathering {D} opening first passes = record {
  opening = opening;
  first = first;
  count = length passes;
  answers = all_answers passes;
  own_entries = map (λ (pass : PassState D). pass.mine) passes;
  log = [];
  taken = None;
  has_turn = false;
}
