-- A first controller, a standby, and what may happen between them.
use Rattle.std.specs.Prelude.{◌≡◌, ℕ, ◌≤◌, ◌==◌, Bool, true, if◌then◌else◌, max, Some, List, [], ◌∷◌, ◌++◌, length, ⊤}
use Rattle.std.specs.List.{Contains}
use mathlib.Core.List.{IsPrefix}
use Rattle.cell_base.specs.declared.cells.Cell.{Cell}
use Rattle.cell_base.specs.declared.requests.Reply.TheVariants.{Granted}
use Rattle.cell_base.specs.declared.shifts.Grant.{Grant}
use Rattle.cell_base.specs.Histories.{replay, is_replay}
use Rattle.cell_base.specs.Outcomes.{reply_to}
use Rattle.standby_link.specs.declared.frame.Frame.{Frame}
use Rattle.standby_link.specs.Frames.{frame_at}

-- the grants of the first controller, the frames sent so far, the grants of the standby, its answers so far, and the greatest one heard
pub record World : Type 0 where
  pub first : List Grant
  pub sent : List Frame
  pub standby : List Grant
  pub answers : List ℕ
  pub known : ℕ

-- what may happen
pub data Event : Type 0 where
  grows : Grant → Event
  sends : Frame → Event
  delivers : Frame → Event
  hears : ℕ → Event
  stops : Frame → Bool → Event

-- what a standby has after a frame: the grant that is next is appended, every other one leaves its grants
abbrev pub received : List Grant → Frame → List Grant
received grants frame = if frame.index == length grants then grants ++ frame.grant ∷ [] else grants

-- a grant is granted after those before it; a frame is one of the first controller's; what comes was sent, and what is heard was answered
abbrev pub IsPossible : Cell → World → Event → Type 0
IsPossible cell world (grows grant) = reply_to cell (replay cell world.first) grant.request ≡ Granted
IsPossible cell world (sends frame) = frame_at world.first frame.index ≡ Some frame
IsPossible cell world (delivers frame) = Contains world.sent frame
IsPossible cell world (hears answer) = Contains world.answers answer
IsPossible cell world (stops frame kept) = Contains world.sent frame

-- The world after an event. A standby that is stopped in a delivery comes up with its grants as before or as after it, and has answered
-- nothing.
abbrev pub after_event : World → Event → World
after_event world (grows grant) = record world { first = world.first ++ grant ∷ [] }
after_event world (sends frame) = record world { sent = world.sent ++ frame ∷ [] }
after_event world (delivers frame) =
    let grants = received world.standby frame in record world { standby = grants; answers = world.answers ++ length grants ∷ [] }
after_event world (hears answer) = record world { known = max world.known answer }
after_event world (stops frame kept) = record world { standby = if kept then received world.standby frame else world.standby }

-- each event is possible in its turn
abbrev pub ArePossible : Cell → World → List Event → Type 0
ArePossible cell world [] = ⊤
ArePossible cell world (event ∷ events) = IsPossible cell world event × ArePossible cell (after_event world event) events

-- the world after events
abbrev pub after_events : World → List Event → World
after_events world [] = world
after_events world (event ∷ events) = after_events (after_event world event) events

-- at the start the standby has a prefix of the first controller's grants, and nothing was sent or heard
pub record IsStart (cell : Cell) (world : World) : Type 0 where
  pub granted : is_replay cell world.first ≡ true
  pub behind : IsPrefix world.standby world.first
  pub nothing_sent : world.sent ≡ []
  pub nothing_answered : world.answers ≡ []
  pub nothing_known : world.known ≡ 0

-- the standby has a prefix of the first controller's grants, each granted in its turn, and as many at least as are known
pub record HasPrefixOfFirst (cell : Cell) (world : World) : Type 0 where
  pub behind : IsPrefix world.standby world.first
  pub granted : is_replay cell world.standby ≡ true
  pub known : world.known ≤ length world.standby

-- whatever happens
abbrev pub FollowingLaw : Cell → Type 0
FollowingLaw cell =
    (world : World) (events : List Event) → IsStart cell world → ArePossible cell world events
    → HasPrefixOfFirst cell (after_events world events)
