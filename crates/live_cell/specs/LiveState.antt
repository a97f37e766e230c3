-- What contracts see of a live cell.
use Rattle.std.specs.Prelude.{◌≡◌, ℕ, ◌+◌, ◌-◌, ◌≤◌, Bool, false, List, [], ◌∷◌, ◌++◌, length, cond}
use Rattle.cell_base.specs.declared.cells.Cell.{Cell}
use Rattle.cell_base.specs.declared.requests.Part.{Part}
use Rattle.cell_base.specs.declared.requests.Request.{Request}
use Rattle.cell_base.specs.declared.shifts.Grant.{Grant}
use Rattle.cell_base.specs.Histories.{is_granted, replay}
use Rattle.cell_base.specs.Outcomes.{reply_to, state_after}
use Rattle.admission_core.specs.CoreState.{CoreState}
use Rattle.move_journal.specs.Groups.{GroupState}
use Rattle.move_journal.specs.Kept.{JournalState}
use Rattle.durable_cell.specs.declared.replays.TheConstants.{MAX_ROOM}

-- The cell and its parts after all that was decided. The disk, and how many grants are on it; the grants that are decided and not yet
-- stable, and how many more may be; how many grants the journal may have in all; and whether a commit failed.
pub record LiveState (D : Type 0) : Type 0 where
  pub cell : Cell
  pub parts : List Part
  pub disk : D
  pub len : ℕ
  pub pending : List Grant
  pub spare : ℕ
  pub room : ℕ
  pub is_halted : Bool

-- the live cell of these parts
abbrev pub seen : {D : Type 0} → CoreState → JournalState D → GroupState → ℕ → LiveState D
seen core journal group room = record {
  cell = core.cell;
  parts = core.parts;
  disk = journal.disk;
  len = journal.len;
  pending = group.grants;
  spare = group.spare;
  room = room;
  is_halted = journal.is_halted;
}

-- a live cell after grants that are on the disk, in which nothing was decided yet
abbrev pub fresh : {D : Type 0} → Cell → D → List Grant → ℕ → ℕ → LiveState D
fresh cell disk grants room most = record {
  cell = cell;
  parts = replay cell grants;
  disk = disk;
  len = length grants;
  pending = [];
  spare = most;
  room = room;
  is_halted = false;
}

-- the grants of one request: none where it is refused
abbrev pub grants_of_one : Cell → List Part → ℕ → Request → List Grant
grants_of_one cell parts session request =
    cond (is_granted (reply_to cell parts request)) (record { shift = 0; session = session; request = request } ∷ []) []

-- one request more was decided
abbrev pub asked : {D : Type 0} → LiveState D → ℕ → Request → LiveState D
asked live session request = let more = grants_of_one live.cell live.parts session request in record live {
  parts = state_after live.cell live.parts request;
  pending = live.pending ++ more;
  spare = live.spare - length more;
}

-- what was pending is on the disk
abbrev pub committed : {D : Type 0} → LiveState D → D → LiveState D
committed live disk = record live {
  disk = disk;
  len = live.len + length live.pending;
  pending = [];
  spare = live.spare + length live.pending;
}

-- the journal has room for what is pending, and the group for so many grants in all
pub record HasRoom (len : ℕ) (group : GroupState) (most room : ℕ) : Type 0 where
  pub fits : len + length group.grants ≤ room
  pub bound : room ≤ MAX_ROOM
  pub most_is : group.spare + length group.grants ≡ most
