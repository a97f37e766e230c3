-- `follow CELL FRAMES JOURNAL`: frames that a standby takes in turn, the grant of each next one written to its journal.
use Rattle.std.specs.Prelude.{◌≡◌, ℕ, None, List, [], ◌∷◌, ◌++◌, length, map, Result, Ok, Err, ⊤}
use Rattle.std.proofs.Common.{refl}
use Rattle.cell_base.specs.declared.cells.Cell.{Cell}
use Rattle.cell_base.specs.declared.shifts.Grant.{Grant}
use Rattle.cell_base.specs.Histories.{replay}
use Rattle.durable_cell.specs.declared.replays.TheConstants.{MAX_ROOM}
use Rattle.record_text.specs.Lines.{left_words, line_of}
use Rattle.cell_walks.specs.Observed.{Known}
use Rattle.cell_walks.specs.Outcomes.{Outcome}
use Rattle.cell_walks.specs.Walks.{Answers, Opens, Test, Tests, Walk}
use Rattle.cell_walks.specs.declared.early_end.Subject.TheVariants.{Command}
use Rattle.cell_walks.specs.declared.status.Status.TheVariants.{CommandRefused, DeviceFault, Done}
use Rattle.cell_texts.specs.Tests.{KnownCell, cell_file}
use Rattle.journal_texts.specs.Tests.{to_add}
use Rattle.standby_link.specs.declared.take_fault.TakeFault.{TakeFault}
use Rattle.standby_link.specs.Deliveries.{AreFramesTaken, acks_of, delivered_all}
use Rattle.standby_link.specs.Followers.{IsGrantedNext, IsFrameRefused}
use Rattle.standby_link.specs.Frames.{index_in}
use Rattle.standby_commands.specs.FrameFiles.{frames_file}
use Rattle.standby_commands.specs.Lines.{ack_line, follow_refused}

-- the lines of the answers to frames that were taken
abbrev pub ack_lines : List Grant → List (List ℕ) → List (List ℕ)
ack_lines opening frames = map ack_line (acks_of opening frames)

-- how many parts are left after grants
abbrev pub left_after : Cell → List Grant → List ℕ
left_after cell grants = line_of (left_words (length (replay cell grants)))

-- Each frame was taken: the journal has the grants of their deliveries, and the last line tells how many parts these leave.
pub record IsFollowed (cell : Cell) (opening : List Grant) (frames : List (List ℕ)) (outcome : Outcome) : Type 0 where
  pub taken : AreFramesTaken cell opening frames
  pub status : outcome.status ≡ Done
  pub pieces : outcome.pieces ≡ ack_lines opening frames ++ left_after cell (delivered_all opening frames) ∷ []
  pub added : opening ++ outcome.added ≡ delivered_all opening frames
  pub sure : outcome.unsure ≡ []

-- A frame after those that were taken is refused: the last line tells why, and the journal has the grants of the frames before it.
pub record IsRefusedAt (cell : Cell) (opening : List Grant) (frames : List (List ℕ)) (outcome : Outcome) : Type 0 where
  pub first : List (List ℕ)
  pub bytes : List ℕ
  pub rest : List (List ℕ)
  pub why : TakeFault
  pub parted : frames ≡ first ++ bytes ∷ rest
  pub taken : AreFramesTaken cell opening first
  pub refused : IsFrameRefused cell (delivered_all opening first) bytes why
  pub status : outcome.status ≡ CommandRefused
  pub pieces : outcome.pieces ≡ ack_lines opening first ++ follow_refused cell (index_in bytes) why ∷ []
  pub added : opening ++ outcome.added ≡ delivered_all opening first
  pub sure : outcome.unsure ≡ []

-- The writing of the grant of a frame after those that were taken failed: that grant may have been added or not.
pub record IsHaltedAt (cell : Cell) (opening : List Grant) (frames : List (List ℕ)) (outcome : Outcome) : Type 0 where
  pub first : List (List ℕ)
  pub bytes : List ℕ
  pub rest : List (List ℕ)
  pub grant : Grant
  pub parted : frames ≡ first ++ bytes ∷ rest
  pub taken : AreFramesTaken cell opening first
  pub granted : IsGrantedNext cell (delivered_all opening first) bytes grant
  pub status : outcome.status ≡ DeviceFault
  pub pieces : outcome.pieces ≡ ack_lines opening first
  pub added : opening ++ outcome.added ≡ delivered_all opening first
  pub unsure : outcome.unsure ≡ grant ∷ []

-- one of the three
pub data EndsFollowing (cell : Cell) (opening : List Grant) (frames : List (List ℕ)) (outcome : Outcome) : Type 0 where
  Followed : IsFollowed cell opening frames outcome → EndsFollowing cell opening frames outcome
  RefusedAt : IsRefusedAt cell opening frames outcome → EndsFollowing cell opening frames outcome
  HaltedAt : IsHaltedAt cell opening frames outcome → EndsFollowing cell opening frames outcome

-- ---- the walk

-- nothing is refused, whatever the bytes
abbrev pub nothing_refused : List ℕ → Result ⊤ ⊥ → Type 0
nothing_refused bytes (Ok had) = ⊤
nothing_refused bytes (Err none) = ⊥

pub refused_once : (bytes : List ℕ) (first second : Result ⊤ ⊥) → nothing_refused bytes first → nothing_refused bytes second
    → first ≡ second
refused_once bytes (Ok a) (Ok b) one other = refl
refused_once bytes (Ok a) (Err b) one other = absurd other
refused_once bytes (Err a) second one other = absurd one

-- memory for the grants of the frames: it may be wanting, and nothing is refused
abbrev pub memory : Test
memory = record {
  Value = ⊤;
  Fault = ⊥;
  source = Known;
  subject = Command;
  reads = nothing_refused;
  one_way = refused_once;
  line = λ none. None;
}

-- what comes after the grants of the journal
abbrev pub stands_by : KnownCell → List (List ℕ) → List Grant → Walk
stands_by held frames opening =
    Tests memory λ had.
    Answers λ input outcome. EndsFollowing held.cell opening frames outcome

-- its walk from the cell on
abbrev pub follow_frames : List ℕ → KnownCell → Walk
follow_frames frames held =
    Tests (frames_file frames) λ list.
    Opens (to_add held MAX_ROOM) (stands_by held list)

abbrev pub follow : List ℕ → List ℕ → Walk
follow cell frames = Tests (cell_file cell) (follow_frames frames)
