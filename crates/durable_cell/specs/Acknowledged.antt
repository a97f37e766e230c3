-- Grants that no crash takes back.
use Rattle.std.specs.Prelude.{ℕ, ◌≤◌, Option, IfSome, List, ◌++◌, length, take}
use Rattle.outside_io.specs.Disk.{LeavesOnly}
use Rattle.move_journal.specs.Disks.{Shows}
use Rattle.journal_format.specs.Journals.{StandsFor}
use Rattle.durable_cell.specs.DurableState.{DurableState}
use Rattle.durable_cell.specs.Kept.{StandsNow, StandsThen, grants_since}

-- the file stands for the grants of the opening and a prefix of those since, at least so many of them
abbrev pub HasFirst : {D : Type 0} → DurableState D → ℕ → List ℕ → Type 0
HasFirst durable count file = (n : ℕ) × (count ≤ n) × StandsFor file durable.text (durable.opening ++ take n (grants_since durable))

-- each image at each moment since then has P
pub record LeftOnly {D : Type 0} (moment : D → ℕ) (left_since : D → ℕ → List ℕ → Type 0) (disk : D) (then : ℕ) (P : List ℕ → Type 0)
    : Type 0 where
  pub reached : then ≤ moment disk
  pub each : (c : List ℕ) → left_since disk then c → P c

-- So many grants were added since the opening, and where the disk tells, each image at each moment since then has them.
pub record HasSince {D : Type 0} (reads_as : D → Option (List ℕ)) (moment : D → ℕ) (left_since : D → ℕ → List ℕ → Type 0)
    (durable : DurableState D) (then count : ℕ) : Type 0 where
  pub added : count ≤ length durable.added
  pub left : IfSome (reads_as durable.disk) (λ _. LeftOnly moment left_since durable.disk then (HasFirst durable count))

-- what each image had since a moment, it has still
abbrev pub HasStill : {D : Type 0} → (D → Option (List ℕ)) → (D → ℕ) → (D → ℕ → List ℕ → Type 0) → DurableState D → DurableState D
    → Type 0
HasStill reads_as moment left_since old new =
    (then count : ℕ) → HasSince reads_as moment left_since old then count → HasSince reads_as moment left_since new then count

-- What a call does to the disk. Each image at each moment of the call stands for what stood before it, or for what stands after it, as
-- do the disk itself and each image at the return. From then on each image has all that was added, and what each image had it has still.
pub record MovesSafely {D : Type 0} (reads_as : D → Option (List ℕ)) (may_leave : D → List ℕ → Type 0) (moment : D → ℕ)
    (left_since : D → ℕ → List ℕ → Type 0) (old new : DurableState D) : Type 0 where
  pub any_moment : IfSome (reads_as old.disk) (λ _. LeavesOnly moment left_since old.disk new.disk (StandsThen old new))
  pub stands : Shows reads_as may_leave new.disk (StandsNow new)
  pub acknowledged : HasSince reads_as moment left_since new (moment new.disk) (length new.added)
  pub still : HasStill reads_as moment left_since old new
