-- The resources of the stages of a cell as a flat list, by the type and the place of a part.
use Rattle.std.specs.Prelude.{◌≡◌, ℕ, ◌*◌, ◌/◌, ◌%◌, Option, List, [], length, map}
use Rattle.std.specs.List.{range_with_len}
use Rattle.std.specs.Option.{ForSome, option_map_or}
use Rattle.cell_base.specs.declared.cells.Cell.{Cell}
use Rattle.cell_base.specs.declared.limits.TheConstants.{MAX_PLACES}
use Rattle.cell_base.specs.Fits.{CellFits}
use Rattle.cell_base.specs.Stages.{resource_at, stage}

-- the resource of the stage at an index, where each type has as many indices as a route may have places
abbrev pub lane_at : Cell → ℕ → ℕ
lane_at cell i = resource_at cell (stage (i / MAX_PLACES) (i % MAX_PLACES))

-- the resources of all types
abbrev pub lanes_of : Cell → List ℕ
lanes_of cell = map (lane_at cell) (range_with_len 0 (length cell.types * MAX_PLACES))

-- the list is that of a cell that fits, or is empty
pub record AreLanes (told : Option Cell) (resources : List ℕ) : Type 0 where
  pub fits : ForSome told CellFits
  pub all : resources ≡ option_map_or lanes_of told []
