-- The rule of the table, and what each step tells.
use Rattle.std.specs.Prelude.{◌≡◌, ◌≢◌, ◌⊎◌, ℕ, ◌+◌, ◌<◌, ◌≤◌, Some, true, false, List, [], ◌∷◌, length, ⊤}
use mathlib.Core.Option.{Option, none, some}
use mathlib.Core.List.{IsPrefix}
use lib.ListN.{get_elem?}
use Rattle.atomic_table.specs.Table.{State, Step}
use Rattle.cell_base.specs.declared.shifts.Entry.{Entry}
use Rattle.cell_base.specs.Histories.{entries_of, grants}
use Rattle.durable_cell.specs.DurableState.{DurableState}
use Rattle.cell_lock.specs.declared.board.Opening.{Opening}
use Rattle.cell_lock.specs.declared.board.View.{View}
use Rattle.cell_lock.specs.Openings.{Fits, Outside, first_moment}
use Rattle.cell_lock.specs.Views.{AtSeat, own_entries_of, initial_view, passing, mine_of, caught_up, MayFind}

-- the number is one of the view's own
abbrev pub Has : {D : Type 0} → View D → ℕ → Type 0
Has v k = (v.first ≤ k) × (k < v.first + v.count)

-- no two views have a number in common
abbrev pub Apart : {D : Type 0} → List (View D) → Type 0
Apart {D} views = (i j k : ℕ) (v w : View D) → get_elem? views i ≡ some v → get_elem? views j ≡ some w → Has v k → Has w k → i ≡ j

-- what was seen with each answer is a beginning of the history
abbrev pub AllBegin : List (List Entry × ℕ) → List Entry → Type 0
AllBegin [] log = ⊤
AllBegin (answer ∷ answers) log = IsPrefix answer.0 log × AllBegin answers log

-- the grants that were seen with each answer are on each image since then
abbrev pub AllStand : {D : Type 0} → (DurableState D → ℕ → ℕ → Type 0) → ℕ → DurableState D → List (List Entry × ℕ) → Type 0
AllStand has shift durable [] = ⊤
AllStand has shift durable (answer ∷ answers) =
    has durable answer.1 (length (grants shift answer.0)) × AllStand has shift durable answers

-- What a view knows is so: what the lock was opened with, where it has a number; that it saw beginnings of the history; the entries of
-- its own numbers, which are numbers of passes; and where it has the turn, the whole history.
pub record Knows {D : Type 0} (opening : Opening D) (log : List Entry) (v : View D) : Type 0 where
  pub same : 0 < v.count → v.opening ≡ opening
  pub begin : AllBegin v.answers log
  pub own_entries : v.own_entries ≡ own_entries_of v.first v.count log
  pub range : 0 < v.count → (1 ≤ v.first) × (v.first + v.count ≤ opening.passes + 1)
  pub acts : v.has_turn ≡ true → (v.log ≡ log) × (v.count ≡ 1)

-- the same of all views
abbrev pub AllKnow : {D : Type 0} → Opening D → List Entry → List (View D) → Type 0
AllKnow {D} opening log views = (i : ℕ) (v : View D) → get_elem? views i ≡ some v → Knows opening log v

-- What a durable cell of the lock has on each image: the grants of the opening, since the disk was found; and the grants that were seen
-- with each answer, since then.
pub record Acknowledges {D : Type 0} (has : DurableState D → ℕ → ℕ → Type 0) (moment : D → ℕ) (opening : Opening D)
    (views : List (View D)) (durable : DurableState D) : Type 0 where
  pub begun : has durable (first_moment moment opening) 0
  pub each : (i : ℕ) (v : View D) → get_elem? views i ≡ some v → AllStand has opening.shift durable v.answers

module _ {D : Type 0} (has : DurableState D → ℕ → ℕ → Type 0) (moment : D → ℕ) (opening : Opening D) (log : List Entry)
    (words : List ℕ) (homes : List (Option (DurableState D))) (views : List (View D)) where
  -- no view has the turn, and the durable cell is at home with this history
  pub record Free : Type 0 where
    pub words_are : words ≡ 0 ∷ length log ∷ []
    pub held : DurableState D
    pub home : homes ≡ some held ∷ []
    pub seen : held.history ≡ log
    pub fits : Fits opening held
    pub acknowledges : Acknowledges has moment opening views held
    pub idle : (i : ℕ) (v : View D) → get_elem? views i ≡ some v → v.has_turn ≡ false

  -- one view has the turn, and the durable cell is out
  pub record Taken : Type 0 where
    pub words_are : words ≡ 1 ∷ length log ∷ []
    pub away : homes ≡ none ∷ []
    pub who : ℕ
    pub holder : View D
    pub at : get_elem? views who ≡ some holder
    pub acting_is : holder.has_turn ≡ true
    pub taken : DurableState D
    pub taken_is : holder.taken ≡ Some taken
    pub acknowledges : Acknowledges has moment opening views taken
    pub alone : (i : ℕ) (v : View D) → get_elem? views i ≡ some v → v.has_turn ≡ true → i ≡ who

-- There is one history, of which all views know: word 1 is its length, each entry has a number of one view, and word 0 is the turn.
pub record Kept {D : Type 0} (has : DurableState D → ℕ → ℕ → Type 0) (moment : D → ℕ) (opening : Opening D)
    (s : State (DurableState D) (View D)) : Type 0 where
  pub log : List Entry
  pub each : AllKnow opening log s.views
  pub apart : Apart s.views
  pub others : (k : ℕ) → Outside opening k → entries_of k log ≡ []
  pub turn : Free has moment opening log s.words s.homes s.views ⊎ Taken has moment opening log s.words s.homes s.views

-- where the turn was free, the pass has it now, and the durable cell with it, which has what the pass saw granted
abbrev pub took : {D : Type 0} → (DurableState D → ℕ → ℕ → Type 0) → Step (DurableState D) → AtSeat D → ℕ → AtSeat D → Type 0
took {D} has st m found m' =
    (found ≡ 0 → (durable : DurableState D) × (m' ≡ (caught_up m.0 durable.history (Some durable), (0, durable) ∷ []))
    × MayFind m.0 durable × AllStand has m.0.opening.shift durable m.0.answers)
    × (found ≢ 0 → m' ≡ m)

-- the history of the durable cell in hand
abbrev pub log_held : {D : Type 0} → List (ℕ × DurableState D) → List Entry
log_held [] = []
log_held (held ∷ more) = held.1.history

-- the pass sees the history of the durable cell in hand
abbrev pub grew : {D : Type 0} → Step (DurableState D) → AtSeat D → ℕ → AtSeat D → Type 0
grew st m found m' = m' ≡ (caught_up m.0 (log_held m.1) m.0.taken, m.1)

-- the clock of the disk of the durable cell in hand
abbrev pub moment_held : {D : Type 0} → (D → ℕ) → List (ℕ × DurableState D) → ℕ
moment_held moment [] = 0
moment_held moment (held ∷ more) = moment held.1.disk

-- the pass has no turn and no durable cell any more, and one answer more
abbrev pub gave : {D : Type 0} → (D → ℕ) → Step (DurableState D) → AtSeat D → ℕ → AtSeat D → Type 0
gave moment st m found m' = m' ≡ (passing m.0.opening m.0.first m.0.log (moment_held moment m.1) m.0.answers (mine_of m.0), [])

-- a new seat has no number, and stands after the last one
abbrev pub sat : {D : Type 0} → Step (DurableState D) → AtSeat D → ℕ → AtSeat D → Type 0
sat st m found m' = m' ≡ (initial_view m.0.opening (m.0.first + m.0.count) 0, [])
