-- What contracts see of a follower, what its type keeps, and what it answers to a frame.
use Rattle.std.specs.Prelude.{◌≡◌, ◌≢◌, ◌⊎◌, ℕ, ◌+◌, ◌<◌, ◌≤◌, Option, Some, None, slice_get, Result, Ok, Err, List, ◌++◌, length, ⊤}
use Rattle.cell_base.specs.declared.cells.Cell.{Cell}
use Rattle.cell_base.specs.declared.requests.Reply.TheVariants.{Granted, Refused}
use Rattle.cell_base.specs.declared.requests.Told.TheVariants.{Answered}
use Rattle.cell_base.specs.declared.requests.Told.TheVariants as told
use Rattle.cell_base.specs.declared.requests.Told.{Told}
use Rattle.cell_base.specs.declared.shifts.Grant.{Grant}
use Rattle.cell_base.specs.Fits.{RequestFits}
use Rattle.cell_base.specs.Histories.{replay}
use Rattle.cell_base.specs.Outcomes.{reply_to}
use Rattle.lists.specs.Shelves.{Shelved}
use Rattle.outside_io.specs.Causes.{Rose}
use Rattle.durable_cell.specs.Asked.{entry, halted_at, with_entry}
use Rattle.durable_cell.specs.DurableState.{DurableState, parts}
use Rattle.standby_link.specs.declared.frame.Frame.{Frame}
use Rattle.standby_link.specs.declared.take_fault.TakeFault.{TakeFault}
use Rattle.standby_link.specs.declared.take_fault.TakeFault.TheVariants.{Halted, NotAFrame, Conflict, NoFit, NotGranted, Full, Device}
use Rattle.standby_link.specs.Frames.{frame_in, framed}

-- a durable cell, and how many grants may be appended to those of its opening
pub record FollowerState (D : Type 0) : Type 0 where
  pub durable : DurableState D
  pub room : ℕ

-- the grants of a standby: those of the opening, and those that were added since
abbrev pub kept_in : {D : Type 0} → DurableState D → List Grant
kept_in durable = durable.opening ++ durable.added

abbrev pub kept : {D : Type 0} → FollowerState D → List Grant
kept follower = kept_in follower.durable

-- no writing has failed
abbrev pub HasNotHalted : {D : Type 0} → FollowerState D → Type 0
HasNotHalted follower = halted_at follower.durable.history ≡ None

-- ---- frames

-- the bytes are the frame of a grant after these
abbrev pub IsNext : List Grant → List ℕ → Grant → Type 0
IsNext grants bytes grant = frame_in bytes ≡ Some (framed (length grants) grant)

-- its request fits the cell and is granted in its turn
pub record IsGrantedNext (cell : Cell) (grants : List Grant) (bytes : List ℕ) (grant : Grant) : Type 0 where
  pub next : IsNext grants bytes grant
  pub fits : RequestFits cell grant.request
  pub granted : reply_to cell (replay cell grants) grant.request ≡ Granted

-- the bytes are the frame of a grant that stands among these at its index, or of one after the next
abbrev pub IsFrameKnown : List Grant → List ℕ → Type 0
IsFrameKnown grants bytes =
    (frame : Frame) × (frame_in bytes ≡ Some frame) × ((slice_get grants frame.index ≡ Some frame.grant) ⊎ (length grants < frame.index))

-- why bytes are refused by a standby with these grants, whatever its room and its device
abbrev pub IsFrameRefused : Cell → List Grant → List ℕ → TakeFault → Type 0
IsFrameRefused cell grants bytes (Halted at) = ⊥
IsFrameRefused cell grants bytes NotAFrame = frame_in bytes ≡ None
IsFrameRefused cell grants bytes (Conflict at kept) =
    (grant : Grant) × (frame_in bytes ≡ Some (framed at grant)) × (slice_get grants at ≡ Some kept) × (kept ≢ grant)
IsFrameRefused cell grants bytes NoFit = (grant : Grant) × IsNext grants bytes grant × (RequestFits cell grant.request → ⊥)
IsFrameRefused cell grants bytes (NotGranted why) =
    (grant : Grant) × IsNext grants bytes grant × RequestFits cell grant.request
    × (reply_to cell (replay cell grants) grant.request ≡ Refused why)
IsFrameRefused cell grants bytes (Full len) = ⊥
IsFrameRefused cell grants bytes Device = ⊥

-- ---- what a frame makes of a follower

-- one decided request more
abbrev pub decided : {D : Type 0} → FollowerState D → D → Grant → Told → FollowerState D
decided follower disk grant told =
    record follower { durable = with_entry follower.durable disk grant.shift (entry grant.session grant.request told) }

-- the grant was appended
abbrev pub with_grant : {D : Type 0} → FollowerState D → D → Grant → FollowerState D
with_grant follower disk grant = decided follower disk grant (Answered Granted)

-- its writing failed
abbrev pub with_halt : {D : Type 0} → FollowerState D → D → Grant → FollowerState D
with_halt follower disk grant = decided follower disk grant told.Halted

-- room for one grant more
abbrev pub HasRoomForGrant : {D : Type 0} → FollowerState D → Type 0
HasRoomForGrant follower = length follower.durable.added < follower.room

-- a grant that may be appended was
pub record IsAppended {D : Type 0} (old : FollowerState D) (bytes : List ℕ) (new : FollowerState D) : Type 0 where
  pub grant : Grant
  pub granted : IsGrantedNext old.durable.cell (kept old) bytes grant
  pub room : HasRoomForGrant old
  pub is : new ≡ with_grant old new.durable.disk grant

-- the writing of a grant that may be appended failed
pub record IsHaltedAppend {D : Type 0} (old : FollowerState D) (bytes : List ℕ) (new : FollowerState D) : Type 0 where
  pub grant : Grant
  pub granted : IsGrantedNext old.durable.cell (kept old) bytes grant
  pub room : HasRoomForGrant old
  pub is : new ≡ with_halt old new.durable.disk grant

-- a grant could be appended, but for the room
pub record IsOutOfRoom {D : Type 0} (old : FollowerState D) (bytes : List ℕ) (len : ℕ) : Type 0 where
  pub grant : Grant
  pub granted : IsGrantedNext old.durable.cell (kept old) bytes grant
  pub room : length old.durable.added ≡ old.room
  pub len_is : len ≡ length (kept old)

-- What is answered to a frame, by the first test that it fails. The answer to a frame that is taken is how many grants there then are.
abbrev pub Takes : {D : Type 0} → FollowerState D → List ℕ → Result ℕ TakeFault → FollowerState D → Type 0
Takes old bytes (Ok ack) new =
    HasNotHalted old × HasNotHalted new × (ack ≡ length (kept new))
    × (((new ≡ old) × IsFrameKnown (kept old) bytes) ⊎ IsAppended old bytes new)
Takes old bytes (Err (Halted at)) new = (new ≡ old) × (halted_at old.durable.history ≡ Some at)
Takes old bytes (Err (Full len)) new = (new ≡ old) × HasNotHalted old × IsOutOfRoom old bytes len
Takes old bytes (Err Device) new = HasNotHalted old × IsHaltedAppend old bytes new
Takes old bytes (Err why) new = (new ≡ old) × HasNotHalted old × IsFrameRefused old.durable.cell (kept old) bytes why

-- the count rises where the answer is that the device failed, and stays with every other answer
abbrev pub HasTakeCause : {A D : Type 0} → (D → ℕ) → D → D → Result A TakeFault → Type 0
HasTakeCause faults old new (Ok value) = faults new ≡ faults old
HasTakeCause faults old new (Err Device) = Rose (faults old) (faults new)
HasTakeCause faults old new (Err why) = faults new ≡ faults old

-- ---- the two steps of a take

-- a frame whose index is not that of the next grant: where a grant stands at the index, it is that of the frame, or it is told
abbrev pub Compares : List Grant → Frame → Result ⊤ TakeFault → Type 0
Compares grants frame (Ok same) = (slice_get grants frame.index ≡ Some frame.grant) ⊎ (length grants ≤ frame.index)
Compares grants frame (Err why) =
    (kept : Grant) × (why ≡ Conflict frame.index kept) × (slice_get grants frame.index ≡ Some kept) × (kept ≢ frame.grant)

-- the next grant, appended or refused
abbrev pub AppendsTo : {D : Type 0} → FollowerState D → List ℕ → Result ⊤ TakeFault → FollowerState D → Type 0
AppendsTo old bytes (Ok done) new = HasNotHalted new × IsAppended old bytes new
AppendsTo old bytes (Err why) new = Takes old bytes (Err why) new

-- the same, whatever bytes are its frame
abbrev pub Appends : {D : Type 0} → FollowerState D → Grant → Result ⊤ TakeFault → FollowerState D → Type 0
Appends old grant result new = (bytes : List ℕ) → IsNext (kept old) bytes grant → AppendsTo old bytes result new

-- ---- what a follower keeps

-- while no writing has failed, each request was granted and added
pub record HasAll {D : Type 0} (durable : DurableState D) : Type 0 where
  pub unsure : durable.unsure ≡ None
  pub each : length durable.history ≡ length durable.added

-- The list is that of the standby's grants, with room for the others; the index of a halt is known; and the state is that after the grants.
pub record KeepsFollower {D : Type 0} (durable : DurableState D) (grants : Shelved Grant) (room : ℕ) (halted : Option ℕ) : Type 0 where
  pub same : grants.items ≡ kept_in durable
  pub spare : room ≤ length durable.added + grants.spare
  pub limit : room ≤ durable.limit
  pub few : length durable.added ≤ room
  pub halt : halted ≡ halted_at durable.history
  pub all : halted ≡ None → HasAll durable
  pub state : parts durable ≡ replay durable.cell (kept_in durable)
