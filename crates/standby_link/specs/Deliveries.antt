-- Frames that come to a standby as bytes, a take as a delivery, and what a crash in it leaves.
use Rattle.std.specs.Prelude.{◌≡◌, ◌⊎◌, ℕ, Option, IfSome, Result, Ok, Err, List, [], ◌∷◌, length, ⊤}
use Rattle.std.specs.Option.{option_map_or}
use Rattle.cell_base.specs.declared.cells.Cell.{Cell}
use Rattle.cell_base.specs.declared.shifts.Grant.{Grant}
use Rattle.outside_io.specs.Disk.{LeavesOnly}
use Rattle.move_journal.specs.Disks.{Shows}
use Rattle.journal_format.specs.Journals.{StandsFor}
use Rattle.standby_link.specs.declared.take_fault.TakeFault.{TakeFault}
use Rattle.standby_link.specs.Followers.{FollowerState, HasNotHalted, IsGrantedNext, IsFrameKnown, kept}
use Rattle.standby_link.specs.Following.{received}
use Rattle.standby_link.specs.Frames.{frame_in}

-- the grants after bytes that are delivered; bytes that are no frame leave them
abbrev pub delivered : List Grant → List ℕ → List Grant
delivered grants bytes = option_map_or (received grants) (frame_in bytes) grants

-- the grants after all of these, delivered in turn, and what is answered to each: how many grants there are after it
abbrev pub delivered_all : List Grant → List (List ℕ) → List Grant
delivered_all grants [] = grants
delivered_all grants (bytes ∷ frames) = delivered_all (delivered grants bytes) frames

abbrev pub acks_of : List Grant → List (List ℕ) → List ℕ
acks_of grants [] = []
acks_of grants (bytes ∷ frames) = length (delivered grants bytes) ∷ acks_of (delivered grants bytes) frames

-- the bytes are a frame that a standby with these grants takes
abbrev pub IsFrameTaken : Cell → List Grant → List ℕ → Type 0
IsFrameTaken cell grants bytes = IsFrameKnown grants bytes ⊎ ((grant : Grant) × IsGrantedNext cell grants bytes grant)

-- each of them is taken in its turn
abbrev pub AreFramesTaken : Cell → List Grant → List (List ℕ) → Type 0
AreFramesTaken cell grants [] = ⊤
AreFramesTaken cell grants (bytes ∷ frames) = IsFrameTaken cell grants bytes × AreFramesTaken cell (delivered grants bytes) frames

-- ---- a take

-- a frame that is taken is delivered, and answered by how many grants there are then; one that isn't taken changes no grants
abbrev pub Delivers : {D : Type 0} → FollowerState D → List ℕ → Result ℕ TakeFault → FollowerState D → Type 0
Delivers old bytes (Ok ack) new = (kept new ≡ delivered (kept old) bytes) × (ack ≡ length (kept new))
Delivers old bytes (Err why) new = kept new ≡ kept old

-- the file stands for grants, or for these after a delivery
abbrev pub StandsForDelivered : List ℕ → List Grant → List ℕ → List ℕ → Type 0
StandsForDelivered text grants bytes file = StandsFor file text grants ⊎ StandsFor file text (delivered grants bytes)

-- where no writing failed before, so does each image at each moment of the call
abbrev pub LeavesDelivered : {D : Type 0} → (D → Option (List ℕ)) → (D → ℕ) → (D → ℕ → List ℕ → Type 0)
    → FollowerState D → List ℕ → FollowerState D → Type 0
LeavesDelivered reads_as moment left_since old bytes new =
    HasNotHalted old → IfSome (reads_as old.durable.disk) (λ _. LeavesOnly moment left_since old.durable.disk new.durable.disk
    (StandsForDelivered old.durable.text (kept old) bytes))

-- the disk stands for the grants of the standby, and so does each image that a crash now may leave
abbrev pub StandsForKept : {D : Type 0} → (D → Option (List ℕ)) → (D → List ℕ → Type 0) → FollowerState D → Type 0
StandsForKept reads_as may_leave follower =
    Shows reads_as may_leave follower.durable.disk (λ file. StandsFor file follower.durable.text (kept follower))
