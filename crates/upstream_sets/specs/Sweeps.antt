-- What the sweep knows on its way from the last stage to the first.
use Rattle.std.specs.Prelude.{◌≡◌, ℕ, ◌<◌, ◌≤◌, ◌&&◌, nat_lt, nat_le, List, length, slice_index}
use Rattle.cell_base.specs.declared.cells.Cell.{Cell}
use Rattle.cell_base.specs.Masks.{has_bit}
use Rattle.cell_base.specs.Stages.{order_of}
pub use Rattle.cell_base.specs.Numbers.{IsNumber, stage_numbered}
use Rattle.cell_base.specs.Neighborhoods.{mask_of}

-- the masks of the stages from a number on
abbrev pub KnowsMasks : Cell → ℕ → List ℕ → Type 0
KnowsMasks cell from masks = (n : ℕ) → from ≤ n → IsNumber cell n → slice_index masks n ≡ mask_of cell (stage_numbered cell n)

-- the mask has the resources of at least an order, and no others
abbrev pub IsFloor : Cell → ℕ → ℕ → Type 0
IsFloor cell least mask = (q : ℕ) → has_bit mask q ≡ (nat_lt q (length cell.resources) && nat_le least (order_of cell q))

-- for each of the first resources the mask of those of at least its order
abbrev pub AreFloors : Cell → ℕ → List ℕ → Type 0
AreFloors cell resources masks = (r : ℕ) → r < resources → IsFloor cell (order_of cell r) (slice_index masks r)
