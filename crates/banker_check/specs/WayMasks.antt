-- Masks of ways, and masks of resources that are full.
use Rattle.std.specs.Prelude.{◌≡◌, ℕ, ◌+◌, ◌≤◌, ◌==◌, ◌&&◌, nat_lt, nat_le, List, length, slice_index, slice_index_or}
use Rattle.std.specs.List.{list_any}
use Rattle.cell_base.specs.declared.cells.Cell.{Cell}
use Rattle.cell_base.specs.Masks.{has_bit}
use Rattle.cell_base.specs.Stages.{Stage, stages, capacity_of}
use Rattle.cell_base.specs.Numbers.{IsNumber, stage_numbered}
use Rattle.banker_check.specs.declared.fullness.Fullness.{Fullness}
use Rattle.banker_check.specs.Ways.{way_from}

-- the mask has the resources of the stage's way, and no others
abbrev pub IsWayMask : Cell → Stage → ℕ → Type 0
IsWayMask cell s mask = (r : ℕ) → has_bit mask r ≡ list_any (λ q. q == r) (way_from cell s)

-- the masks of the stages from a number on
abbrev pub KnowsWays : Cell → ℕ → List ℕ → Type 0
KnowsWays cell from masks = (n : ℕ) → from ≤ n → IsNumber cell n → IsWayMask cell (stage_numbered cell n) (slice_index masks n)

-- the masks of all stages
pub record AreWays (cell : Cell) (masks : List ℕ) : Type 0 where
  pub complete : length masks ≡ length (stages cell)
  pub each : KnowsWays cell 0 masks

-- the mask has the resources on which as many parts stand as they have units, and so many beyond
abbrev pub HoldBeyond : Cell → List ℕ → ℕ → ℕ → Type 0
HoldBeyond cell counts beyond mask =
    (r : ℕ) → has_bit mask r ≡ (nat_lt r (length cell.resources) && nat_le (capacity_of cell r + beyond) (slice_index_or counts r 0))

-- the resources on which as many parts stand as they have units, and those on which more stand
pub record AreFull (cell : Cell) (counts : List ℕ) (masks : Fullness) : Type 0 where
  pub full : HoldBeyond cell counts 0 masks.full
  pub over : HoldBeyond cell counts 1 masks.over
