-- Frames that a follower takes in turn, and how a `follow` comes about.
use Rattle.std.specs.Prelude.{◌≡◌, ℕ, ◌≤◌, Option, Some, None, IfSome, List, [], ◌∷◌, ◌++◌, length, map, Result, Ok, Err}
use Rattle.cell_base.specs.declared.cells.Cell.{Cell}
use Rattle.cell_base.specs.declared.shifts.Grant.{Grant}
use Rattle.admission_core.specs.CoreState.{CoreState}
use Rattle.durable_cell.specs.DurableState.{DurableState}
use Rattle.durable_cell.specs.declared.replays.TheConstants.{MAX_ROOM}
use Rattle.record_text.specs.Lines.{left_words, line_of}
use Rattle.cell_walks.specs.Allowed.{AtOpening, StandsForAdded}
use Rattle.cell_walks.specs.DiskTold.{DiskTold}
use Rattle.cell_walks.specs.Outcomes.{Outcome, printed}
use Rattle.cell_walks.specs.declared.early_end.EarlyEnd.{EarlyEnd}
use Rattle.cell_walks.specs.declared.early_end.EarlyEnd.TheVariants.{WantOfMemory}
use Rattle.cell_walks.specs.declared.status.Status.TheVariants.{CommandRefused, DeviceFault, Done}
use Rattle.journal_texts.specs.Recorded.{IsFresh}
use Rattle.cell_texts.specs.Tests.{KnownCell}
use Rattle.journal_texts.specs.Tests.{to_add}
use Rattle.standby_link.specs.declared.take_fault.TakeFault.{TakeFault}
use Rattle.standby_link.specs.declared.take_fault.TakeFault.TheVariants.{Device}
use Rattle.standby_link.specs.Deliveries.{AreFramesTaken, acks_of, delivered_all}
use Rattle.standby_link.specs.Followers.{FollowerState, IsGrantedNext, IsFrameRefused, kept}
use Rattle.standby_link.specs.Frames.{index_in}
use Rattle.standby_commands.specs.Follow.{EndsFollowing}
use Rattle.standby_commands.specs.Lines.{FaultFits, ack_line, follow_refused}
use Rattle.standby_commands.specs.declared.follow.Followed.{Followed}
use Rattle.standby_commands.specs.declared.following.Stop.{Stop}

-- ---- the frames

-- nothing was taken yet, and there is room for so many grants
pub record IsFreshFollower {D : Type 0} (follower : FollowerState D) (frames : ℕ) : Type 0 where
  pub fresh : IsFresh follower.durable
  pub room : frames ≤ follower.room

-- a durable cell that may have grown: what its opening found stays
pub record IsOf {D : Type 0} (old new : DurableState D) : Type 0 where
  pub cell : new.cell ≡ old.cell
  pub text : new.text ≡ old.text
  pub entry : new.entry ≡ old.entry
  pub opening : new.opening ≡ old.opening

-- these frames were taken in turn, with these answers
pub record HasFollowed {D : Type 0} (old : FollowerState D) (frames : List (List ℕ)) (new : FollowerState D) (acks : List ℕ) : Type 0 where
  pub taken : AreFramesTaken old.durable.cell (kept old) frames
  pub kept_is : kept new ≡ delivered_all (kept old) frames
  pub acks_are : acks ≡ acks_of (kept old) frames
  pub same : IsOf old.durable new.durable

-- the next one is refused, or the writing of its grant failed
pub data StopsBy {D : Type 0} (cell : Cell) (grants : List Grant) (bytes : List ℕ) (why : TakeFault) (new : DurableState D) : Type 0 where
  ByRefusal : IsFrameRefused cell grants bytes why → new.unsure ≡ None → StopsBy cell grants bytes why new
  ByDevice : (grant : Grant) → IsGrantedNext cell grants bytes grant → why ≡ Device → new.unsure ≡ Some grant
      → StopsBy cell grants bytes why new

-- the frames before some frame were taken, and at it the follower stopped
pub record HasStopped {D : Type 0} (old : FollowerState D) (frames : List (List ℕ)) (new : FollowerState D) (acks : List ℕ) (stop : Stop)
    : Type 0 where
  pub first : List (List ℕ)
  pub bytes : List ℕ
  pub rest : List (List ℕ)
  pub parted : frames ≡ first ++ bytes ∷ rest
  pub followed : HasFollowed old first new acks
  pub index_is : stop.index ≡ index_in bytes
  pub stops : StopsBy old.durable.cell (delivered_all (kept old) first) bytes stop.why new.durable

-- all of them were taken, or it stopped
abbrev pub HasTaken : {D : Type 0} → FollowerState D → List (List ℕ) → FollowerState D → List ℕ → Option Stop → Type 0
HasTaken old frames new acks None = HasFollowed old frames new acks × (new.durable.unsure ≡ None)
HasTaken old frames new acks (Some stop) = HasStopped old frames new acks stop

-- ---- the lines

-- where it stopped, the reason names what the cell has
abbrev pub StopFits : Followed → Type 0
StopFits followed = IfSome followed.stop (λ stop. FaultFits followed.core.cell stop.why)

-- what is told after the answers, and the status, where it stopped for this reason
abbrev pub stop_outcome : Cell → ℕ → TakeFault → Outcome
stop_outcome cell index Device = printed DeviceFault []
stop_outcome cell index why = printed CommandRefused (follow_refused cell index why ∷ [])

-- the same, where it may have stopped
abbrev pub ended_by : CoreState → Option Stop → Outcome
ended_by core None = printed Done (line_of (left_words (length core.parts)) ∷ [])
ended_by core (Some stop) = stop_outcome core.cell stop.index stop.why

abbrev pub end_outcome : Followed → Outcome
end_outcome followed = ended_by followed.core followed.stop

-- the answers and what is told after them, and what was added
abbrev pub follow_outcome : Followed → List Grant → List Grant → Outcome
follow_outcome followed added unsure = record {
  status = (end_outcome followed).status;
  pieces = map ack_line followed.acks.items ++ (end_outcome followed).pieces;
  added = added;
  unsure = unsure;
}

-- ---- the journal

-- the frames were taken after the grants of the journal as far as the walk says; or there was no memory, and nothing was added
abbrev pub HasFollowedOn : DiskTold → Cell → List ℕ → List Grant → List (List ℕ) → Result Followed EarlyEnd → Type 0
HasFollowedOn disk cell text opening frames (Ok followed) =
    (added : List Grant) × (unsure : List Grant) × EndsFollowing cell opening frames (follow_outcome followed added unsure)
    × StandsForAdded disk text opening added unsure
HasFollowedOn disk cell text opening frames (Err end) = (end ≡ WantOfMemory) × StandsForAdded disk text opening [] []

-- the journal of this cell was opened and followed, or the command ended there
abbrev pub IsFollowedOnJournal : DiskTold → KnownCell → List (List ℕ) → Result Followed EarlyEnd → Type 0
IsFollowedOnJournal disk held frames made = AtOpening disk (to_add held MAX_ROOM) (λ end. made ≡ Err end)
    (λ opening. HasFollowedOn disk held.cell held.text opening frames made)
