-- What contracts see of a recount.
use Rattle.std.specs.Prelude.{ℕ, ◌≤◌, List}
use Rattle.cell_base.specs.declared.cells.Cell.{Cell}
use Rattle.cell_base.specs.declared.requests.Part.{Part}
use Rattle.cell_base.specs.Policy.{IsAdmitted}
use Rattle.cell_base.specs.Fits.{CellFits, units_of}

-- the cell, its parts in the order in which they came to their present stages, and the parts that were kept aside
pub record RecountState : Type 0 where
  pub cell : Cell
  pub parts : List Part
  pub kept : List Part

-- the cell fits, the policy admits the parts, and there is room for all the parts that it can ever admit
pub record IsSound (cell : Cell) (parts : List Part) (room : ℕ) : Type 0 where
  pub fits : CellFits cell
  pub admitted : IsAdmitted cell parts
  pub enough : units_of cell.resources ≤ room
