-- What contracts see of a durable cell.
use Rattle.std.specs.Prelude.{ℕ, Option, List, slice_index_or}
use Rattle.atomic_table.specs.declared.badge.Badge.{Badge}
use Rattle.cell_base.specs.declared.cells.Cell.{Cell}
use Rattle.cell_base.specs.declared.requests.Part.{Part}
use Rattle.cell_base.specs.declared.shifts.Entry.{Entry}
use Rattle.cell_base.specs.declared.shifts.Grant.{Grant}
use Rattle.cell_base.specs.Histories.{after, replay}
use Rattle.admission_core.specs.CoreState.{CoreState}
use Rattle.move_journal.specs.Kept.{JournalState}

-- The cell and its text. The disk three times: as it was handed to `open`, as it was found there, with all grants read and nothing written
-- yet, and as it is now. The grants for which it stood; since then the decided requests, the grants that were added to the journal, and the
-- one whose writing failed; and how many requests may be decided.
pub record DurableState (D : Type 0) : Type 0 where
  pub cell : Cell
  pub text : List ℕ
  pub entry : D
  pub found : D
  pub disk : D
  pub opening : List Grant
  pub history : List Entry
  pub added : List Grant
  pub unsure : Option Grant
  pub limit : ℕ

-- the parts after the grants of the opening
abbrev pub first_parts : {D : Type 0} → DurableState D → List Part
first_parts durable = replay durable.cell durable.opening

-- the parts after the history
abbrev pub parts : {D : Type 0} → DurableState D → List Part
parts durable = after durable.cell (first_parts durable) durable.history

-- the disk of which a badge was taken; `other` stands for it where the badge has none
abbrev pub marked : {D : Type 0} → Badge D → D → D
marked badge other = slice_index_or badge.views 0 other

-- the durable cell of these parts
abbrev pub seen : {D : Type 0} → Badge D → Badge D → CoreState → List ℕ → JournalState D → List Grant → List Entry
    → List Grant → Option Grant → ℕ → DurableState D
seen entry found core text journal opening history added unsure limit = record {
  cell = core.cell;
  text = text;
  entry = marked entry journal.disk;
  found = marked found journal.disk;
  disk = journal.disk;
  opening = opening;
  history = history;
  added = added;
  unsure = unsure;
  limit = limit;
}
