-- Which outcomes a walk allows, by what is observed.
use Rattle.std.specs.Prelude.{◌≡◌, ◌⊎◌, ℕ, List, ◌++◌, Some, IfSome, Ok, Err}
use Rattle.std.specs.List.{All}
use Rattle.outside_io.specs.Causes.{Rose}
use Rattle.cell_base.specs.declared.shifts.Grant.{Grant}
use Rattle.journal_format.specs.Journals.{StandsForPrefix, StandsFor}
use Rattle.journal_format.specs.Replayed.{AreDue, opened_as}
use Rattle.journal_format.specs.declared.fault.JournalFault.{JournalFault}
use Rattle.cell_walks.specs.DiskTold.{DiskTold, IsNow, IsOnlyRead, IsUntouched, AddsNothing, SinceEntry}
use Rattle.outside_io.specs.Files.{IsThere}
use Rattle.cell_walks.specs.Observed.{FilesTold, Observed, Source, Word, File, Known, HoldsOfBytes}
use Rattle.cell_walks.specs.Outcomes.{Outcome, early}
use Rattle.cell_walks.specs.Walks.{Test, Journal, refusal_of, refusal_by, Purpose, ToRead, ToAdd, Walk, Tests, Opens, Answers}
use Rattle.cell_walks.specs.declared.early_end.EarlyEnd.{EarlyEnd}
use Rattle.cell_walks.specs.declared.early_end.EarlyEnd.TheVariants.{NotRead, DeviceFailed, WantOfMemory, Refused}

-- ---- the disk

-- The disk stands for the opening grants and those that were added, with none or with all of those whose writing failed, and so does each
-- file that a crash now leaves; a crash since entry left the opening grants and a prefix of the others, or, until the disk was found to
-- stand for the opening grants, what one at entry might have left; and a writing failed only where the disk did.
pub record StandsForAdded (disk : DiskTold) (text : List ℕ) (opening added unsure : List Grant) : Type 0 where
  pub now : IsNow disk (λ file. StandsFor file text (opening ++ added) ⊎ StandsFor file text (opening ++ added ++ unsure))
  pub any_moment : SinceEntry disk (StandsForPrefix text opening (added ++ unsure))
  pub cause : All (λ grant. Rose disk.faults disk.faults_after) unsure

-- how far a command has come with its disk: it was not asked, it is only read, or it stands for the grants that were found on it
pub data Reached : Type 0 where
  Unasked : Reached
  ReadOnly : Reached
  Opened : (text : List ℕ) → (opening : List Grant) → Reached

-- what an outcome then leaves of the disk
abbrev pub IsLeft : Reached → DiskTold → Outcome → Type 0
IsLeft Unasked disk outcome = IsUntouched disk
IsLeft ReadOnly disk outcome = IsOnlyRead disk
IsLeft (Opened text opening) disk outcome = StandsForAdded disk text opening outcome.added outcome.unsure

-- after an opening
abbrev pub reached_by : Purpose → List ℕ → List Grant → Reached
reached_by ToRead text grants = ReadOnly
reached_by ToAdd text grants = Opened text grants

-- what is left of a disk that failed before its journal was open: it was only read, or where it was blank, none could be made
abbrev pub IsUnopened : Purpose → List ℕ → DiskTold → Type 0
IsUnopened ToRead text disk = IsOnlyRead disk
IsUnopened ToAdd text disk = AddsNothing text disk

-- ---- a test

-- a read fails only where the count of faults rose, and never of sound files that hold the name
abbrev pub IsUnread : FilesTold → Source → EarlyEnd → Type 0
IsUnread files (File name) end =
    (end ≡ NotRead) × Rose files.faults files.faults_after × (files.is_sound → IsThere files.names name → ⊥)
IsUnread files (Word word) end = ⊥
IsUnread files Known end = ⊥

-- a test ends the command so: its file can't be read, the bytes are refused, or memory is wanting
pub data IsEndedAt (files : FilesTold) (test : Test) (end : EarlyEnd) : Type 0 where
  ByFault : IsUnread files test.source end → IsEndedAt files test end
  ByRefusal : (fault : test.Fault) → HoldsOfBytes files test.source (λ bytes. test.reads bytes (Err fault)) → (line : List ℕ)
      → test.line fault ≡ Some line → end ≡ Refused (refusal_of test line) → IsEndedAt files test end
  ByMemory : end ≡ WantOfMemory → IsEndedAt files test end

-- a test is made: the command ends there, or the bytes read as a value, of which this follows
pub data AtTest (files : FilesTold) (test : Test) (ends : EarlyEnd → Type 0) (follows : test.Value → Type 0) : Type 0 where
  Stopped : (end : EarlyEnd) → IsEndedAt files test end → ends end → AtTest files test ends follows
  Passed : (value : test.Value) → HoldsOfBytes files test.source (λ bytes. test.reads bytes (Ok value)) → follows value
      → AtTest files test ends follows

-- ---- the journal

-- as far as the disk tells, its bytes at entry are refused, by this fault
abbrev pub IsRefusedBy : DiskTold → Journal → JournalFault → Type 0
IsRefusedBy disk journal why = IfSome disk.reads (λ file. opened_as journal.cell file journal.text journal.room ≡ Err why)

-- as far as the disk tells, they stand for these grants, each of which fits the cell and is granted in its turn
abbrev pub IsOpenedAs : DiskTold → Journal → List Grant → Type 0
IsOpenedAs disk journal grants =
    AreDue journal.cell grants × IfSome disk.reads (λ file. opened_as journal.cell file journal.text journal.room ≡ Ok grants)

-- the opening of a journal ends the command so: the device fails, the bytes are refused, or memory is wanting
pub data IsNotOpened (disk : DiskTold) (journal : Journal) (end : EarlyEnd) : Type 0 where
  OpeningFailed : end ≡ DeviceFailed → Rose disk.faults disk.faults_after → IsUnopened journal.purpose journal.text disk
      → IsNotOpened disk journal end
  OpeningRefused : (why : JournalFault) → IsRefusedBy disk journal why → IsOnlyRead disk → end ≡ Refused (refusal_by journal why)
      → IsNotOpened disk journal end
  OpeningStarved : end ≡ WantOfMemory → IsOnlyRead disk → IsNotOpened disk journal end

-- a journal is opened: the command ends there, or the bytes stand for grants, of which this follows
pub data AtOpening (disk : DiskTold) (journal : Journal) (ends : EarlyEnd → Type 0) (follows : List Grant → Type 0) : Type 0 where
  NotOpened : (end : EarlyEnd) → IsNotOpened disk journal end → ends end → AtOpening disk journal ends follows
  JournalOpened : (grants : List Grant) → IsOpenedAs disk journal grants → follows grants → AtOpening disk journal ends follows

-- ---- the walk

-- the outcome is that of an early end, and this was done to the disk
abbrev pub IsEarly : Reached → Observed → Outcome → EarlyEnd → Type 0
IsEarly reached seen outcome end = (outcome ≡ early end) × IsLeft reached seen.disk outcome

-- the walk allows this outcome, from where it has come with the disk
abbrev pub AllowsFrom : Observed → Outcome → Reached → Walk → Type 0
AllowsFrom seen outcome reached (Tests test next) =
    AtTest seen.files test (IsEarly reached seen outcome) (λ value. AllowsFrom seen outcome reached (next value))
AllowsFrom seen outcome reached (Opens journal next) =
    AtOpening seen.disk journal (λ end. outcome ≡ early end)
    (λ grants. AllowsFrom seen outcome (reached_by journal.purpose journal.text grants) (next grants))
AllowsFrom seen outcome reached (Answers allows) = allows seen.input outcome × IsLeft reached seen.disk outcome

-- the outcome is one that the walk allows
abbrev pub IsAllowed : Observed → Walk → Outcome → Type 0
IsAllowed seen walk outcome = AllowsFrom seen outcome Unasked walk
