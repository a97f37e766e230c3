-- What the mask of a stage says.
use Rattle.std.specs.Prelude.{◌≡◌, ℕ, List}
use Rattle.cell_base.specs.declared.cells.Cell.{Cell}
use Rattle.cell_base.specs.Masks.{has_bit}
use Rattle.cell_base.specs.Numbers.{stage_numbered}
use Rattle.cell_base.specs.Neighborhoods.{masks_of, leads}
use Rattle.cell_base.specs.Fits.{CellFits}

-- where these are the masks of a cell that fits, bit r of the mask is set exactly where the stage of this number leads to r
abbrev pub TellsLeads : List ℕ → ℕ → ℕ → Type 0
TellsLeads masks stage mask =
    (cell : Cell) → CellFits cell → masks ≡ masks_of cell → (r : ℕ) → has_bit mask r ≡ leads cell (stage_numbered cell stage) r
