-- What a disk tells of one call of the program.
use Rattle.std.specs.Prelude.{◌≡◌, ◌⊎◌, ℕ, ◌≤◌, List, [], Option, None, IfSome, IsSome, IsSomeAnd}
use Rattle.outside_io.specs.Disk.{SameOutcomes}
use Rattle.outside_io.specs.Meanings.{DiskMeaning}
use Rattle.cell_base.specs.declared.shifts.Grant.{Grant}
use Rattle.journal_format.specs.Blanks.{IsBlank}
use Rattle.journal_format.specs.Journals.{StandsFor}
use Rattle.journal_format.specs.Reads.{OnlyReads}

-- What the disk reads as, which files a crash may leave, and how many calls have failed, at entry and at the return; which files a crash
-- at any moment since entry might have left, and which one since a later moment; and until which moments it was only read.
pub record DiskTold : Type 1 where
  pub reads : Option (List ℕ)
  pub reads_after : Option (List ℕ)
  pub leaves : List ℕ → Type 0
  pub leaves_after : List ℕ → Type 0
  pub left : List ℕ → Type 0
  pub left_since : ℕ → List ℕ → Type 0
  pub read_until : ℕ → Type 0
  pub faults : ℕ
  pub faults_after : ℕ

-- it was only read until this moment, which came before the return
abbrev pub IsReadUntil : {D : Type 0} → (D → Option (List ℕ)) → (D → List ℕ → Type 0) → (D → ℕ) → (D → ℕ → List ℕ → Type 0) → D → D → ℕ
    → Type 0
IsReadUntil {D} reads_as may_leave moment left_since old new time =
    (found : D) × OnlyReads reads_as may_leave moment left_since old found × (moment found ≡ time) × (time ≤ moment new)

-- what a disk tells, by its meanings
abbrev pub disk_told : {D : Type 0} → (D → Option (List ℕ)) → (D → List ℕ → Type 0) → (D → ℕ) → (D → ℕ → List ℕ → Type 0)
    → (D → ℕ) → D → D → DiskTold
disk_told reads_as may_leave moment left_since faults old new = record {
  reads = reads_as old;
  reads_after = reads_as new;
  leaves = may_leave old;
  leaves_after = may_leave new;
  left = left_since new (moment old);
  left_since = left_since new;
  read_until = IsReadUntil reads_as may_leave moment left_since old new;
  faults = faults old;
  faults_after = faults new;
}

-- the same, by these meanings as one
abbrev pub disk_seen : {D : Type 0} → DiskMeaning D → D → D → DiskTold
disk_seen disk old new = disk_told disk.reads_as disk.may_leave disk.moment disk.left_since disk.faults old new

-- the disk of a function that has none
abbrev pub no_disk : DiskTold
no_disk = record {
  reads = None;
  reads_after = None;
  leaves = λ file. ⊥;
  leaves_after = λ file. ⊥;
  left = λ file. ⊥;
  left_since = λ time file. ⊥;
  read_until = λ time. ⊥;
  faults = 0;
  faults_after = 0;
}

-- ---- what was done to it

-- nothing: it reads and counts as it did, a crash leaves the same, and none since entry might have left anything else
pub record IsUntouched (disk : DiskTold) : Type 0 where
  pub reads : disk.reads_after ≡ disk.reads
  pub counts : disk.faults_after ≡ disk.faults
  pub leaves : SameOutcomes disk.leaves disk.leaves_after
  pub any_moment : (file : List ℕ) → disk.left file → disk.leaves file

-- it was only read: it reads as it did, and no crash since entry might have left what one at entry might not have left
pub record IsOnlyRead (disk : DiskTold) : Type 0 where
  pub reads : disk.reads_after ≡ disk.reads
  pub leaves : (file : List ℕ) → disk.leaves_after file → disk.leaves file
  pub any_moment : (file : List ℕ) → disk.left file → disk.leaves file

-- ---- for which grants it stands

-- where it told, it still tells, and reads as a file of which this holds, and a crash now leaves none of which it doesn't
abbrev pub IsNow : DiskTold → (List ℕ → Type 0) → Type 0
IsNow disk P =
    IfSome disk.reads (λ _. IsSomeAnd disk.reads_after (λ file. P file × ((left : List ℕ) → disk.leaves_after left → P left)))

-- where it told, a crash since entry might have left no file of which this doesn't hold
abbrev pub IsAlways : DiskTold → (List ℕ → Type 0) → Type 0
IsAlways disk P = IfSome disk.reads (λ _. (left : List ℕ) → disk.left left → P left)

-- where it told, there is a moment until which it was only read, and since which a crash might have left no file of which this doesn't hold
abbrev pub IsSinceFound : DiskTold → (List ℕ → Type 0) → Type 0
IsSinceFound disk P =
    IfSome disk.reads (λ _. (found : ℕ) × disk.read_until found × ((left : List ℕ) → disk.left_since found left → P left))

-- At each moment since entry a crash might have left what one at entry might have left, or a file of which this holds; and what one at
-- entry might have left only while the disk was still only read.
pub record SinceEntry (disk : DiskTold) (P : List ℕ → Type 0) : Type 0 where
  pub always : IsAlways disk (λ file. disk.leaves file ⊎ P file)
  pub found : IsSinceFound disk P

-- It was blank and stands for no grants; and so does each file since entry that a crash at entry might not have left.
pub record StaysEmpty (text : List ℕ) (disk : DiskTold) : Type 0 where
  pub blank : IfSome disk.reads IsBlank
  pub now : IsNow disk (λ file. StandsFor file text [])
  pub any_moment : IsAlways disk (λ file. disk.leaves file ⊎ StandsFor file text [])

-- an end before anything was added to its journal: it was only read, or none could be made where it was blank
abbrev pub AddsNothing : List ℕ → DiskTold → Type 0
AddsNothing text disk = IsOnlyRead disk ⊎ StaysEmpty text disk

-- it told at entry, and a crash then might have left no file but such as stand for these grants
abbrev pub StoodFor : DiskTold → List ℕ → List Grant → Type 0
StoodFor disk text grants = IsSome disk.reads × ((left : List ℕ) → disk.leaves left → StandsFor left text grants)

-- it stands for them now, and a crash since entry might have left no file that doesn't
abbrev pub StillStandsFor : DiskTold → List ℕ → List Grant → Type 0
StillStandsFor disk text grants =
    IsNow disk (λ file. StandsFor file text grants) × IsAlways disk (λ file. StandsFor file text grants)
