-- What a `follow` tells, each fact by itself; what its exit status tells; and where it goes through.
use Rattle.std.specs.Prelude.{◌≡◌, ◌≢◌, ◌⊎◌, ℕ, ◌≤◌, List, [], ◌∷◌, ◌++◌, length, Ok, IfSome}
use Rattle.std.specs.List.{All}
use mathlib.Core.List.{IsPrefix}
use Rattle.outside_io.specs.Causes.{Rose}
use Rattle.outside_io.specs.Puts.{SinkTold, TookAll}
use Rattle.cell_base.specs.declared.cells.Cell.{Cell}
use Rattle.cell_base.specs.declared.shifts.Grant.{Grant}
use Rattle.journal_format.specs.Replayed.{AreDue}
use Rattle.durable_cell.specs.declared.replays.TheConstants.{MAX_ROOM}
use Rattle.journal_format.specs.Journals.{StandsForPrefix, StandsFor}
use Rattle.cell_walks.specs.Allowed.{IsOpenedAs}
use Rattle.cell_walks.specs.DiskTold.{DiskTold, IsNow, SinceEntry, StoodFor}
use Rattle.cell_walks.specs.Observed.{Observed, ShowsFile}
use Rattle.cell_walks.specs.Outcomes.{Outcome}
use Rattle.cell_walks.specs.Promises.{Accepts, DiskServes, IsCut, KeepsGrants, Promises, ReadsAll, TakesAll}
use Rattle.cell_walks.specs.StatusTells.{HasFailedEarly, IsEarlyEnd}
use Rattle.cell_walks.specs.Statuses.{status_number}
use Rattle.cell_walks.specs.declared.status.Status.{Status}
use Rattle.cell_walks.specs.declared.status.Status.TheVariants.{Done, NoMemory}
use Rattle.cell_texts.specs.Tests.{KnownCell, cell_reads}
use Rattle.journal_texts.specs.Tests.{to_add}
use Rattle.standby_link.specs.Deliveries.{delivered_all}
use Rattle.standby_link.specs.Fed.{IsFrameOf}
use Rattle.standby_commands.specs.Follow.{IsFollowed, IsHaltedAt, IsRefusedAt, follow}
use Rattle.standby_commands.specs.FrameFiles.{frames_reads}

-- Each frame was taken: the disk stands for the grants of their deliveries, from the opening grants on.
pub record IsFollowedWhole (disk : DiskTold) (cell : Cell) (text : List ℕ) (frames : List (List ℕ)) (opening : List Grant)
    (outcome : Outcome) : Type 0 where
  pub is : IsFollowed cell opening frames outcome
  pub stands : IsNow disk (λ file. StandsFor file text (delivered_all opening frames))
  pub any_moment : SinceEntry disk (StandsForPrefix text opening outcome.added)

-- A frame is refused: the disk stands for the grants of the frames before it.
pub record IsRefusedFollow (disk : DiskTold) (cell : Cell) (text : List ℕ) (frames : List (List ℕ)) (opening : List Grant)
    (outcome : Outcome) : Type 0 where
  pub is : IsRefusedAt cell opening frames outcome
  pub stands : IsNow disk (λ file. StandsFor file text (delivered_all opening is.first))
  pub any_moment : SinceEntry disk (StandsForPrefix text opening outcome.added)

-- The writing of a grant failed: the disk stands for the grants of the frames before it, or for these and that one.
pub record IsHaltedFollow (disk : DiskTold) (cell : Cell) (text : List ℕ) (frames : List (List ℕ)) (opening : List Grant)
    (outcome : Outcome) : Type 0 where
  pub is : IsHaltedAt cell opening frames outcome
  pub stands : IsNow disk (λ file. StandsFor file text (delivered_all opening is.first)
      ⊎ StandsFor file text (delivered_all opening is.first ++ is.grant ∷ []))
  pub any_moment : SinceEntry disk (StandsForPrefix text opening (outcome.added ++ is.grant ∷ []))
  pub cause : Rose disk.faults disk.faults_after

-- one of the three
pub data IsFollowTold (disk : DiskTold) (cell : Cell) (text : List ℕ) (frames : List (List ℕ)) (opening : List Grant)
    (outcome : Outcome) : Type 0 where
  ToldWhole : IsFollowedWhole disk cell text frames opening outcome → IsFollowTold disk cell text frames opening outcome
  ToldRefused : IsRefusedFollow disk cell text frames opening outcome → IsFollowTold disk cell text frames opening outcome
  ToldHalted : IsHaltedFollow disk cell text frames opening outcome → IsFollowTold disk cell text frames opening outcome

-- ---- by its status

-- The files stand for a cell and frames, and the journal for grants: where the disk stood for one list of grants, for these; and this is so
-- of the disk, of these, and of the outcome.
pub record IsFollowFrom (Told : DiskTold → Cell → List ℕ → List (List ℕ) → List Grant → Outcome → Type 0) (seen : Observed)
    (cell_name frames_name : List ℕ) (outcome : Outcome) : Type 0 where
  pub held : KnownCell
  pub cell_read : ShowsFile seen.files cell_name (λ bytes. cell_reads bytes (Ok held))
  pub list : List (List ℕ)
  pub frames_read : ShowsFile seen.files frames_name (λ bytes. frames_reads bytes (Ok list))
  pub opening : List Grant
  pub opened : IsOpenedAs seen.disk (to_add held MAX_ROOM) opening
  pub stood : (grants : List Grant) → StoodFor seen.disk held.text grants → grants ≡ opening
  pub told : Told seen.disk held.cell held.text list opening outcome
  -- where the files tell their bytes, what is added to a journal that can be read leaves one that can be read
  pub room : IfSome seen.files.names (λ names.
      length opening ≤ MAX_ROOM → length (opening ++ outcome.added ++ outcome.unsure) ≤ MAX_ROOM)

-- What the exit status of `follow` tells, whatever the outside did.
pub record FollowTells (seen : Observed) (sink : SinkTold) (cell_name frames_name : List ℕ) (status : ℕ) : Type 0 where
  pub outcome : Outcome
  -- Status 0: each frame was taken, and all that it prints was.
  pub done : status ≡ 0 → IsFollowFrom IsFollowedWhole seen cell_name frames_name outcome × TookAll sink outcome.pieces
  -- Status 10: a frame is refused, and the answers before it and the line of the refusal were taken.
  pub refused : status ≡ 10 → IsFollowFrom IsRefusedFollow seen cell_name frames_name outcome × TookAll sink outcome.pieces
  -- Status 7: the device failed before a frame was taken; or at the grant of one, and the answers before it were taken.
  pub halted : status ≡ 7 → HasFailedEarly seen sink outcome
      ⊎ (IsFollowFrom IsHaltedFollow seen cell_name frames_name outcome × TookAll sink outcome.pieces)
  -- Status 8: a prefix of what one of these or an early end prints was taken, and the disk is as that says.
  pub cut : status ≡ 8 → IsCut sink outcome.pieces × (IsEarlyEnd outcome ⊎ IsFollowFrom IsFollowTold seen cell_name frames_name outcome)
  -- Any other status is that of an early end, whose line was taken; and it adds nothing.
  pub ended : status ≢ 0 → status ≢ 7 → status ≢ 8 → status ≢ 10
      → IsEarlyEnd outcome × (status ≡ status_number outcome.status) × TookAll sink outcome.pieces
  -- With every status: a disk that stood for grants stands for them and a prefix of those that the outcome adds, the one whose writing
  -- failed last, and so does each file that a crash at any moment since entry leaves.
  pub crash : KeepsGrants seen outcome (follow cell_name frames_name)

-- ---- frames of one list

-- whatever the files and the disk show: the frames are those of one list of grants, each granted in its turn, that begins with the opening
-- grants
abbrev pub AreOfOneList : Observed → List ℕ → List ℕ → Type 0
AreOfOneList seen cell frames =
    (held : KnownCell) → ShowsFile seen.files cell (λ bytes. cell_reads bytes (Ok held))
    → (list : List (List ℕ)) → ShowsFile seen.files frames (λ bytes. frames_reads bytes (Ok list))
    → (opening : List Grant) → IsOpenedAs seen.disk (to_add held MAX_ROOM) opening
    → (every : List Grant) × IsPrefix opening every × AreDue held.cell every × All (IsFrameOf every) list

-- where nothing is refused, nothing outside fails, and the frames are of one list, all are taken, or memory is wanting
abbrev pub Completes : Observed → SinkTold → List ℕ → List ℕ → Status → Type 0
Completes seen sink cell frames status =
    Promises seen sink (follow cell frames) status → Accepts seen (follow cell frames) → ReadsAll seen (follow cell frames)
    → DiskServes seen (follow cell frames) → TakesAll sink → AreOfOneList seen cell frames → (status ≡ Done) ⊎ (status ≡ NoMemory)
