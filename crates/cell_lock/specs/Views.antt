-- What a seat of the table knows, and the values in its hand.
use Rattle.std.specs.Prelude.{◌≡◌, ℕ, zero, suc, ◌+◌, false, true, Option, Some, None, List, [], ◌∷◌, ◌++◌, drop, replicate, slice_index_or}
use mathlib.Core.List.{IsPrefix}
use Rattle.atomic_table.specs.Table.{Me}
use Rattle.cell_base.specs.declared.shifts.Entry.{Entry}
use Rattle.cell_base.specs.Histories.{entries_of}
use Rattle.durable_cell.specs.DurableState.{DurableState}
use Rattle.cell_lock.specs.declared.board.Opening.{Opening}
use Rattle.cell_lock.specs.declared.board.View.{View}
use Rattle.cell_lock.specs.Openings.{nothing_opened, Fits}

-- the entries of each of `count` numbers, from `first` on
abbrev pub own_entries_of : ℕ → ℕ → List Entry → List (List Entry)
own_entries_of first zero log = []
own_entries_of first (suc count) log = entries_of first log ∷ own_entries_of (first + 1) count log

-- a view that has these numbers to give
abbrev pub initial_view : {D : Type 0} → Opening D → ℕ → ℕ → View D
initial_view opening first count = record {
  opening = opening;
  first = first;
  count = count;
  answers = [];
  own_entries = replicate count [];
  log = [];
  taken = None;
  has_turn = false;
}

-- the view of a pass between its calls: what it saw last and the disk's clock of then, and the same of its earlier answers
abbrev pub passing : {D : Type 0} → Opening D → ℕ → List Entry → ℕ → List (List Entry × ℕ) → List Entry → View D
passing opening number seen moment earlier mine = record {
  opening = opening;
  first = number;
  count = 1;
  answers = (seen, moment) ∷ earlier;
  own_entries = mine ∷ [];
  log = [];
  taken = None;
  has_turn = false;
}

-- the view of a pass that has the turn, took this durable cell, and has seen this history
abbrev pub acting : {D : Type 0} → Opening D → ℕ → List (List Entry × ℕ) → List Entry → List Entry → Option (DurableState D) → View D
acting opening number answers log mine taken = record {
  opening = opening;
  first = number;
  count = 1;
  answers = answers;
  own_entries = mine ∷ [];
  log = log;
  taken = taken;
  has_turn = true;
}

-- a view that has taken in the one with the next numbers
abbrev pub gathered : {D : Type 0} → View D → View D → View D
gathered v w = record {
  opening = v.opening;
  first = v.first;
  count = v.count + w.count;
  answers = v.answers ++ w.answers;
  own_entries = v.own_entries ++ w.own_entries;
  log = v.log;
  taken = v.taken;
  has_turn = v.has_turn;
}

-- what is left of a view that was taken in
abbrev pub spent : {D : Type 0} → View D
spent = initial_view nothing_opened 0 0

-- a seat's view, and the durable cell in its hand
abbrev pub AtSeat : Type 0 → Type 0
AtSeat D = Me (DurableState D) (View D)

-- the history that the view saw last
abbrev pub seen_of : {D : Type 0} → View D → List Entry
seen_of v = (slice_index_or v.answers 0 ([], 0)).0

-- the disk's clock of then
abbrev pub moment_of : {D : Type 0} → View D → ℕ
moment_of v = (slice_index_or v.answers 0 ([], 0)).1

-- its earlier answers
abbrev pub earlier_of : {D : Type 0} → View D → List (List Entry × ℕ)
earlier_of v = drop 1 v.answers

-- the entries of its own number
abbrev pub mine_of : {D : Type 0} → View D → List Entry
mine_of v = slice_index_or v.own_entries 0 []

-- the durable cell in hand; `other` stands for it where there is none
abbrev pub held_of : {D : Type 0} → DurableState D → AtSeat D → DurableState D
held_of other m = (slice_index_or m.1 0 (0, other)).1

-- what the view becomes once it has the turn, took this durable cell and has seen this history
abbrev pub caught_up : {D : Type 0} → View D → List Entry → Option (DurableState D) → View D
caught_up v log taken = acting v.opening v.first v.answers log (entries_of v.first log) taken

-- the seat that has the numbers which are left
abbrev pub IsInitial : {D : Type 0} → AtSeat D → Type 0
IsInitial m = m ≡ (initial_view m.0.opening m.0.first m.0.count, [])

-- the seat of a pass between its calls
abbrev pub IsResting : {D : Type 0} → AtSeat D → Type 0
IsResting m = m ≡ (passing m.0.opening m.0.first (seen_of m.0) (moment_of m.0) (earlier_of m.0) (mine_of m.0), [])

-- the seat of a pass that has the turn and this durable cell
abbrev pub IsActing : {D : Type 0} → AtSeat D → DurableState D → Type 0
IsActing m durable =
    (m ≡ (acting m.0.opening m.0.first m.0.answers m.0.log (mine_of m.0) m.0.taken, (0, durable) ∷ []))
    × Fits m.0.opening durable

-- the same, and it has seen the history of the durable cell
abbrev pub IsHolding : {D : Type 0} → AtSeat D → DurableState D → Type 0
IsHolding m durable = (m ≡ (caught_up m.0 durable.history m.0.taken, (0, durable) ∷ [])) × Fits m.0.opening durable

-- Whatever each image had since a moment, of the durable cell that the pass took, it has of the one in hand; `has` says of a durable cell
-- what each image has since a moment.
abbrev pub IsSafe : {D : Type 0} → (DurableState D → ℕ → ℕ → Type 0) → AtSeat D → DurableState D → Type 0
IsSafe {D} has m durable = (taken : DurableState D) × (m.0.taken ≡ Some taken)
    × ((then count : ℕ) → has taken then count → has durable then count)

-- The durable cell is one that the pass may find: its history begins with what the pass saw, and has the pass's own entries and no others
-- of its number.
pub record MayFind {D : Type 0} (v : View D) (durable : DurableState D) : Type 0 where
  pub fits : Fits v.opening durable
  pub began : IsPrefix (seen_of v) durable.history
  pub own : mine_of v ≡ entries_of v.first durable.history
