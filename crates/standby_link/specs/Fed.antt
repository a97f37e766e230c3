-- Frames of one list of grants, in whatever order: what a feeder sends, and what a standby that has a prefix of the grants takes.
use Rattle.std.specs.Prelude.{◌≡◌, ℕ, ◌+◌, ◌≤◌, ◌^◌, Some, List, [], ◌∷◌, length, map, drop}
use Rattle.std.specs.List.{All}
use mathlib.Core.List.{IsPrefix}
use Rattle.cell_base.specs.declared.cells.Cell.{Cell}
use Rattle.cell_base.specs.declared.shifts.Grant.{Grant}
use Rattle.entry_codec.specs.Records.{IsInRange}
use Rattle.journal_format.specs.Replayed.{AreDue}
use Rattle.standby_link.specs.declared.frame.Frame.{Frame}
use Rattle.standby_link.specs.Deliveries.{AreFramesTaken, delivered_all}
use Rattle.standby_link.specs.Frames.{frame_at, frame_in, frame_of, framed}

-- the frames of grants, the first of which has this index
abbrev pub frames_at : ℕ → List Grant → List Frame
frames_at at [] = []
frames_at at (grant ∷ grants) = framed at grant ∷ frames_at (at + 1) grants

-- the bytes of the frames of grants from an index on
abbrev pub fed : ℕ → List Grant → List (List ℕ)
fed first grants = map frame_of (frames_at first (drop first grants))

-- the bytes are the frame of the grant that the list has at its index
abbrev pub IsFrameOf : List Grant → List ℕ → Type 0
IsFrameOf all bytes = (frame : Frame) × (frame_in bytes ≡ Some frame) × (frame_at all frame.index ≡ Some frame)

-- each of such frames is taken, lost, repeated and reordered as they may be, and the standby has a prefix of the list after them
abbrev pub FedLaw : Cell → Type 0
FedLaw cell =
    (opening all : List Grant) (frames : List (List ℕ)) → IsPrefix opening all → AreDue cell all → All (IsFrameOf all) frames
    → AreFramesTaken cell opening frames × IsPrefix (delivered_all opening frames) all

-- What is fed of grants that fit the cell and are granted in their turns are frames of these grants, where the numbers are in the ranges
-- of their types: those of each grant, and each index.
abbrev pub FeedIsFedLaw : Cell → Type 0
FeedIsFedLaw cell =
    (first : ℕ) (grants : List Grant) → All IsInRange grants → length grants ≤ 2 ^ 64 → AreDue cell grants
    → All (IsFrameOf grants) (fed first grants)
