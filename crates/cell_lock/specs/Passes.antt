-- What contracts see of a lock and of its passes.
use mathlib.Core.List.{IsPrefix}
use Rattle.std.specs.Prelude.{◌≡◌, ℕ, zero, suc, ◌+◌, List, [], ◌∷◌, ◌++◌, length, Result, Ok, Err, Option, Some, None, ⊤}
use Rattle.atomic_table.specs.Seated.{TableId}
use Rattle.cell_base.specs.declared.requests.Reply.{Reply}
use Rattle.cell_base.specs.declared.requests.Request.{Request}
use Rattle.cell_base.specs.declared.requests.Told.TheVariants.{Answered}
use Rattle.cell_base.specs.declared.requests.Told.TheVariants as told
use Rattle.cell_base.specs.declared.shifts.Entry.{Entry}
use Rattle.durable_cell.specs.declared.fault.AskFault.{AskFault}
use Rattle.durable_cell.specs.declared.fault.AskFault.TheVariants.{Halted, Full, Device}
use Rattle.durable_cell.specs.Asked.{halted_at, entry}
use Rattle.durable_cell.specs.DurableState.{DurableState}
use Rattle.durable_cell.specs.Kept.{KeepsDisk}
use Rattle.cell_lock.specs.declared.board.Opening.{Opening}
use Rattle.cell_lock.specs.Openings.{Fits, first_moment}

-- which lock it is, and what it was opened with
pub record LockId (D : Type 0) : Type 0 where
  pub table : TableId
  pub opening : Opening D

-- The lock of a pass and its number; the history that it saw last, and the disk's clock of then; the same of its earlier answers, the last
-- one first; and its own entries in that history.
pub record PassState (D : Type 0) : Type 0 where
  pub lock : LockId D
  pub number : ℕ
  pub seen : List Entry
  pub moment : ℕ
  pub earlier : List (List Entry × ℕ)
  pub mine : List Entry

-- what a pass saw with each of its answers, and the disk's clock of then
abbrev pub answers_of : {D : Type 0} → PassState D → List (List Entry × ℕ)
answers_of pass = (pass.seen, pass.moment) ∷ pass.earlier

-- the same of all passes, one after another
abbrev pub all_answers : {D : Type 0} → List (PassState D) → List (List Entry × ℕ)
all_answers [] = []
all_answers (pass ∷ passes) = answers_of pass ++ all_answers passes

-- a pass that saw nothing
abbrev pub new_pass : {D : Type 0} → (D → ℕ) → LockId D → ℕ → PassState D
new_pass moment lock number =
    record { lock = lock; number = number; seen = []; moment = first_moment moment lock.opening; earlier = []; mine = [] }

-- such passes, numbered from `first` on
abbrev pub new_passes : {D : Type 0} → (D → ℕ) → LockId D → ℕ → ℕ → List (PassState D)
new_passes moment lock first zero = []
new_passes moment lock first (suc count) = new_pass moment lock first ∷ new_passes moment lock (first + 1) count

-- the passes are of this lock and are numbered from `first` on
abbrev pub ArePassesNumbered : {D : Type 0} → LockId D → ℕ → List (PassState D) → Type 0
ArePassesNumbered lock first [] = ⊤
ArePassesNumbered lock first (pass ∷ passes) = (pass.lock ≡ lock) × (pass.number ≡ first) × ArePassesNumbered lock (first + 1) passes

-- they are the passes with which the lock was opened
pub record AreAll {D : Type 0} (lock : LockId D) (passes : List (PassState D)) : Type 0 where
  pub numbered : ArePassesNumbered lock 1 passes
  pub count : length passes ≡ lock.opening.passes

-- the pass has one answer more, and keeps the earlier ones
abbrev pub HasAnswer : {D : Type 0} → PassState D → PassState D → Type 0
HasAnswer old new = new.earlier ≡ answers_of old

-- What a pass keeps as the moment of its last answer is the clock, at that answer, of the disk of the durable cell under the lock: the one
-- with the history that the pass then saw.
pub record IsClockOf {D : Type 0} (reads_as : D → Option (List ℕ)) (may_leave : D → List ℕ → Type 0) (moment : D → ℕ)
    (left_since : D → ℕ → List ℕ → Type 0) (faults : D → ℕ) (opening : Opening D) (pass : PassState D) : Type 0 where
  pub durable : DurableState D
  pub fits : Fits opening durable
  pub keeps : KeepsDisk reads_as may_leave moment left_since faults durable
  pub seen : pass.seen ≡ durable.history
  pub clock : pass.moment ≡ moment durable.disk

-- the pass keeps its lock and its number
pub record KeepsName {D : Type 0} (old new : PassState D) : Type 0 where
  pub lock : new.lock ≡ old.lock
  pub number : new.number ≡ old.number

-- the history that is now seen ends with this entry, after all that was seen before, and the pass's own entries grew by it
pub record AddsEntry {D : Type 0} (old new : PassState D) (e : Entry) : Type 0 where
  pub before : List Entry
  pub began : IsPrefix old.seen before
  pub ends : new.seen ≡ before ++ e ∷ []
  pub own : new.mine ≡ old.mine ++ e ∷ []

-- What a pass knows after it asked: its entry with the reply, or as the halt; or where the history that it sees halts, or that it is
-- full.
abbrev pub Asked : {D : Type 0} → PassState D → Request → Result Reply AskFault → PassState D → Type 0
Asked old request (Ok reply) new = AddsEntry old new (entry old.number request (Answered reply))
Asked old request (Err (Halted at)) new = (halted_at new.seen ≡ Some at) × (new.mine ≡ old.mine)
Asked old request (Err (Full len)) new =
    (halted_at new.seen ≡ None) × (len ≡ length new.seen) × (len ≡ old.lock.opening.limit) × (new.mine ≡ old.mine)
Asked old request (Err (Device at)) new = AddsEntry old new (entry old.number request told.Halted) × (at + 1 ≡ length new.seen)
