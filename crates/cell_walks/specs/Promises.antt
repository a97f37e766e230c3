-- What every walk promises: each promise follows of the outcomes that the walk allows, whatever the command.
use Rattle.std.specs.Prelude.{Some, ◌≡◌, ◌⊎◌, ◌≤◌, ℕ, List, [], ◌∷◌, ◌++◌, length, take, Ok, Err, IsSomeAnd, ⊤}
use Rattle.std.specs.List.{concat}
use Rattle.outside_io.specs.Causes.{Rose}
use Rattle.outside_io.specs.Puts.{SinkTold, TookAll}
use Rattle.outside_io.specs.Sink.{AppendsPrefix}
use Rattle.cell_base.specs.declared.shifts.Grant.{Grant}
use Rattle.journal_format.specs.Journals.{StandsForPrefix}
use Rattle.journal_format.specs.Replayed.{AreDue, opened_as}
use Rattle.journal_format.specs.declared.fault.JournalFault.{JournalFault}
use Rattle.cell_walks.specs.Allowed.{StandsForAdded, IsAllowed, IsLeft, IsOpenedAs, Reached, Unasked, reached_by}
use Rattle.cell_walks.specs.DiskTold.{AddsNothing, DiskTold, IsAlways, IsNow, IsOnlyRead, IsUntouched, StoodFor}
use Rattle.cell_walks.specs.Observed.{Observed, Evidence, IsThereAt, HoldsOfBytes, Tells, certain, shown}
use Rattle.cell_walks.specs.Outcomes.{IsDelivered, Outcome, early}
use Rattle.cell_walks.specs.Statuses.{early_line, early_status, subject_status}
use Rattle.cell_walks.specs.Walks.{refusal_by, refusal_of, ToAdd, ToRead, Walk, Tests, Opens, Answers}
use Rattle.cell_walks.specs.declared.early_end.EarlyEnd.{EarlyEnd}
use Rattle.cell_walks.specs.declared.early_end.EarlyEnd.TheVariants.{NotRead, DeviceFailed, WantOfMemory, Refused}
use Rattle.cell_walks.specs.declared.early_end.Refusal.{Refusal}
use Rattle.cell_walks.specs.declared.early_end.Subject.{Subject}
use Rattle.cell_walks.specs.declared.status.Status.{Status}
use Rattle.cell_walks.specs.declared.status.Status.TheVariants.{Done, Denied, ReadFault, DeviceFault, SinkFault, NoMemory}

-- ---- ways through a walk

-- Its tests pass up to one that is refused, at which the command ends so: by this evidence, `shown` or `certain`.
abbrev pub Refuses : Evidence → Walk → Refusal → Type 0
Refuses evidence (Tests test next) refusal =
    ((fault : test.Fault) × (line : List ℕ) × evidence.at test.source
    (λ bytes. test.reads bytes (Err fault)) × (test.line fault ≡ Some line)
    × (refusal_of test line ≡ refusal))
    ⊎ ((value : test.Value) × evidence.at test.source (λ bytes. test.reads bytes (Ok value)) × Refuses evidence (next value) refusal)
Refuses evidence (Opens journal next) refusal =
    ((why : JournalFault) × evidence.on_disk
    (λ file. opened_as journal.cell file journal.text journal.room ≡ Err why) × (refusal_by journal why ≡ refusal))
    ⊎ ((grants : List Grant) × evidence.on_disk (λ file. opened_as journal.cell file journal.text journal.room ≡ Ok grants)
    × Refuses evidence (next grants) refusal)
Refuses evidence (Answers allows) refusal = ⊥

-- its tests pass, and it answers so
abbrev pub AnswersFrom : Observed → Outcome → Reached → Walk → Type 0
AnswersFrom seen outcome reached (Tests test next) =
    (value : test.Value) × HoldsOfBytes seen.files test.source
    (λ bytes. test.reads bytes (Ok value)) × AnswersFrom seen outcome reached (next value)
AnswersFrom seen outcome reached (Opens journal next) =
    (grants : List Grant) × IsOpenedAs seen.disk journal grants
    × AnswersFrom seen outcome (reached_by journal.purpose journal.text grants) (next grants)
AnswersFrom seen outcome reached (Answers allows) = allows seen.input outcome × IsLeft reached seen.disk outcome

-- the outcome is an answer of the walk: each of its tests passed before it
abbrev pub IsAnswered : Observed → Walk → Outcome → Type 0
IsAnswered seen walk outcome = AnswersFrom seen outcome Unasked walk

-- Nothing that it tests is refused; each file that a crash at entry might have left stands for one list of grants with the journal's text,
-- for which there is room, and each of which is granted in its turn.
abbrev pub Accepts : Observed → Walk → Type 0
Accepts seen (Tests test next) =
    ((fault : test.Fault) → HoldsOfBytes seen.files test.source (λ bytes. test.reads bytes (Err fault)) → ⊥)
    × ((value : test.Value) → HoldsOfBytes seen.files test.source (λ bytes. test.reads bytes (Ok value)) → Accepts seen (next value))
Accepts seen (Opens journal next) =
    (grants : List Grant) × StoodFor seen.disk journal.text grants × (length grants ≤ journal.room) × AreDue journal.cell grants
    × Accepts seen (next grants)
Accepts seen (Answers allows) = ⊤

-- each file that it asks for is there
abbrev pub AreThere : Observed → Walk → Type 0
AreThere seen (Tests test next) =
    IsThereAt seen.files test.source
    × ((value : test.Value) → HoldsOfBytes seen.files test.source (λ bytes. test.reads bytes (Ok value)) → AreThere seen (next value))
AreThere seen (Opens journal next) = (grants : List Grant) → IsOpenedAs seen.disk journal grants → AreThere seen (next grants)
AreThere seen (Answers allows) = ⊤

-- it has no journal
abbrev pub OpensNone : Walk → Type 0
OpensNone (Tests test next) = (value : test.Value) → OpensNone (next value)
OpensNone (Opens journal next) = ⊥
OpensNone (Answers allows) = ⊤

-- it has one at most
abbrev pub OpensOnce : Walk → Type 0
OpensOnce (Tests test next) = (value : test.Value) → OpensOnce (next value)
OpensOnce (Opens journal next) = (grants : List Grant) → OpensNone (next grants)
OpensOnce (Answers allows) = ⊤

-- it answers, with no test after the journal
abbrev pub AnswersNow : Walk → Type 0
AnswersNow (Tests test next) = ⊥
AnswersNow (Opens journal next) = ⊥
AnswersNow (Answers allows) = ⊤

abbrev pub OpensLast : Walk → Type 0
OpensLast (Tests test next) = (value : test.Value) → OpensLast (next value)
OpensLast (Opens journal next) = (grants : List Grant) → AnswersNow (next grants)
OpensLast (Answers allows) = ⊤

-- it only reads its journal
abbrev pub OnlyReadsJournal : Walk → Type 0
OnlyReadsJournal (Tests test next) = (value : test.Value) → OnlyReadsJournal (next value)
OnlyReadsJournal (Opens journal next) = (journal.purpose ≡ ToRead) × ((grants : List Grant) → OnlyReadsJournal (next grants))
OnlyReadsJournal (Answers allows) = ⊤

-- ---- the disk

-- it stands for the grants and a prefix of the others, and so does each file that a crash now or since entry leaves
abbrev pub StandsWith : DiskTold → List ℕ → List Grant → List Grant → Type 0
StandsWith disk text grants since = IsNow disk (StandsForPrefix text grants since) × IsAlways disk (StandsForPrefix text grants since)

-- A disk that stood for grants, with the text of the journal that is opened, stands for them and a prefix of those that the outcome
-- adds: with an early end, for them alone.
abbrev pub KeepsGrants : Observed → Outcome → Walk → Type 0
KeepsGrants seen outcome (Tests test next) =
    (value : test.Value) → Tells seen.files test.source (λ bytes. test.reads bytes (Ok value)) → KeepsGrants seen outcome (next value)
KeepsGrants seen outcome (Opens journal next) =
    (grants : List Grant) → StoodFor seen.disk journal.text grants
    → StandsWith seen.disk journal.text grants (outcome.added ++ outcome.unsure)
KeepsGrants seen outcome (Answers allows) = ⊤

-- its tests pass for certain up to a journal that the disk tells, and that is refused
abbrev pub HoldsRefused : Observed → Walk → Type 0
HoldsRefused seen (Tests test next) =
    (value : test.Value) × Tells seen.files test.source (λ bytes. test.reads bytes (Ok value)) × HoldsRefused seen (next value)
HoldsRefused seen (Opens journal next) =
    (why : JournalFault) × IsSomeAnd seen.disk.reads (λ file. opened_as journal.cell file journal.text journal.room ≡ Err why)
HoldsRefused seen (Answers allows) = ⊥

-- Its tests pass up to a journal that may be added to, and that is left so: it could not be opened, and the disk stands for what it stood
-- for; or it was opened, and the disk stands for its grants and those of the outcome.
abbrev pub ReachesJournal : Observed → Outcome → Walk → Type 0
ReachesJournal seen outcome (Tests test next) =
    (value : test.Value) × HoldsOfBytes seen.files test.source (λ bytes. test.reads bytes (Ok value))
    × ReachesJournal seen outcome (next value)
ReachesJournal seen outcome (Opens journal next) =
    (journal.purpose ≡ ToAdd)
    × (AddsNothing journal.text seen.disk
    ⊎ ((grants : List Grant) × IsOpenedAs seen.disk journal grants
    × StandsForAdded seen.disk journal.text grants outcome.added outcome.unsure))
ReachesJournal seen outcome (Answers allows) = ⊥

-- ---- the outside

-- no read failed, or the files are sound and hold what is asked for
abbrev pub ReadsAll : Observed → Walk → Type 0
ReadsAll seen walk = (Rose seen.files.faults seen.files.faults_after → ⊥) ⊎ (seen.files.is_sound × AreThere seen walk)

-- a read failed, and the files aren't sound or don't hold what is asked for
abbrev pub HasFailedReading : Observed → Walk → Type 0
HasFailedReading seen walk = Rose seen.files.faults seen.files.faults_after × (seen.files.is_sound → AreThere seen walk → ⊥)

-- the disk did not fail, where there is a journal
abbrev pub DiskServes : Observed → Walk → Type 0
DiskServes seen walk = OpensNone walk ⊎ (Rose seen.disk.faults seen.disk.faults_after → ⊥)

-- the sink did not fail
abbrev pub TakesAll : SinkTold → Type 0
TakesAll sink = Rose sink.faults sink.faults_after → ⊥

-- Only the outside explains the end: a read failed, the disk failed before the journal was open, or memory was wanting; or this holds.
pub data UnlessOutside (seen : Observed) (walk : Walk) (outcome : Outcome) (decided : Type 0) : Type 0 where
  ReadFailed : outcome ≡ early NotRead → Rose seen.files.faults seen.files.faults_after → (seen.files.is_sound → AreThere seen walk → ⊥)
      → UnlessOutside seen walk outcome decided
  DiskFailed : outcome ≡ early DeviceFailed → Rose seen.disk.faults seen.disk.faults_after → (OpensNone walk → ⊥)
      → UnlessOutside seen walk outcome decided
  MemoryFailed : outcome ≡ early WantOfMemory → UnlessOutside seen walk outcome decided
  Decided : decided → UnlessOutside seen walk outcome decided

-- it ends so, and a test on the way is refused so
abbrev pub IsRefused : Observed → Walk → Outcome → Type 0
IsRefused seen walk outcome = (refusal : Refusal) × (outcome ≡ early (Refused refusal)) × Refuses (shown seen) walk refusal

-- ---- the end of a call

-- some outcome that the walk allows was delivered, with this status
pub record Ends (seen : Observed) (sink : SinkTold) (walk : Walk) (status : Status) : Type 0 where
  pub outcome : Outcome
  pub allowed : IsAllowed seen walk outcome
  pub delivered : IsDelivered sink outcome status

-- a prefix of the pieces was put, and of their text a prefix was taken, up to where the sink failed
pub record IsCut (sink : SinkTold) (pieces : List (List ℕ)) : Type 0 where
  pub first : (count : ℕ) × sink.puts (take count pieces)
  pub part : AppendsPrefix sink.taken sink.taken_after (concat pieces)
  pub cause : Rose sink.faults sink.faults_after

-- it answered so, with this status, and each piece was taken
abbrev pub HasAnswered : Observed → SinkTold → Walk → Outcome → Status → Type 0
HasAnswered seen sink walk outcome status = IsAnswered seen walk outcome × (outcome.status ≡ status) × TookAll sink outcome.pieces

-- the line of this end was taken, with its status, or memory was wanting
abbrev pub IsEndedBy : SinkTold → EarlyEnd → Status → Type 0
IsEndedBy sink end status = ((status ≡ early_status end) × TookAll sink (early_line end ∷ [])) ⊎ (status ≡ NoMemory)

pub record Promises (seen : Observed) (sink : SinkTold) (walk : Walk) (status : Status) : Type 0 where
  -- What was put, and done to the disk, is that of an outcome that the walk allows, with its status; each piece by one put. So it is with
  -- every status but that of a failed sink, and the sink's count of faults stayed then.
  pub outcome : Outcome
  pub allowed : IsAllowed seen walk outcome
  pub whole : (status ≡ SinkFault → ⊥)
      → (status ≡ outcome.status) × TookAll sink outcome.pieces × (sink.faults_after ≡ sink.faults)
  -- Where the sink fails, a prefix of the pieces was put.
  pub cut : status ≡ SinkFault → IsCut sink outcome.pieces
  -- No end without its cause: the outside failed, or a test is refused so, or the tests pass and it answers so.
  pub cause : UnlessOutside seen walk outcome (IsRefused seen walk outcome ⊎ IsAnswered seen walk outcome)
  -- A refusal comes exactly where a test is refused: only there ..
  pub refused : (subject : Subject) → status ≡ subject_status subject
      → ((refusal : Refusal) × (refusal.subject ≡ subject) × Refuses (shown seen) walk refusal × TookAll sink (refusal.line ∷ []))
      ⊎ IsAnswered seen walk outcome
  -- .. and always there, where nothing outside fails.
  pub exact : (refusal : Refusal) → Refuses (certain seen) walk refusal → ReadsAll seen walk → DiskServes seen walk → TakesAll sink
      → IsEndedBy sink (Refused refusal) status
  -- Statuses 0 and 1 are those of an answer, and it was taken.
  pub done : status ≡ Done → HasAnswered seen sink walk outcome status
  pub denied : status ≡ Denied → HasAnswered seen sink walk outcome status
  -- Statuses 3 and 7 come only where the files or the disk failed, and 3 never of sound files that hold what is asked for.
  pub read_fault : status ≡ ReadFault → HasFailedReading seen walk ⊎ IsAnswered seen walk outcome
  pub device_fault : status ≡ DeviceFault
      → ((outcome ≡ early DeviceFailed) × Rose seen.disk.faults seen.disk.faults_after) ⊎ IsAnswered seen walk outcome
  -- Where nothing is refused and nothing outside fails, it answers.
  pub complete : Accepts seen walk → ReadsAll seen walk → DiskServes seen walk → TakesAll sink
      → ((status ≡ outcome.status) × TookAll sink outcome.pieces × IsAnswered seen walk outcome) ⊎ (status ≡ NoMemory)
  -- The disk was only read, or it is that of a journal that was added to.
  pub disk : OpensOnce walk → IsOnlyRead seen.disk ⊎ ReachesJournal seen outcome walk
  -- A disk whose journal is refused reads as it did, with every status.
  pub keeps_refused : HoldsRefused seen walk → IsOnlyRead seen.disk
  -- A crash at any moment.
  pub keeps : OpensOnce walk → KeepsGrants seen outcome walk
  pub early_reads : OpensLast walk → IsOnlyRead seen.disk ⊎ ((outcome ≡ early DeviceFailed) ⊎ IsAnswered seen walk outcome)
  pub only_reads : OnlyReadsJournal walk → IsOnlyRead seen.disk
  pub untouched : OpensNone walk → IsUntouched seen.disk
