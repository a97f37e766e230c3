-- What the core looks up of a stage.
use Rattle.std.specs.Prelude.{◌≡◌, ℕ, ◌<◌, true, List, length, Some, slice_get}
use Rattle.std.specs.Option.{option_map, IfSome}
use Rattle.cell_base.specs.declared.cells.Cell.{Cell}
use Rattle.cell_base.specs.Stages.{Stage, stage, IsStage, stages, resource_at, works_at, successor}
use Rattle.cell_base.specs.Neighborhoods.{mask_of}
use Rattle.cell_base.specs.Numbers.{stage_numbered}
use Rattle.cell_base.specs.Plans.{work_from}
use Rattle.admission_core.specs.declared.stage_rows.Row.{Row}

-- the row tells of the stage what the definitions say
pub record IsRowOf (cell : Cell) (s : Stage) (row : Row) : Type 0 where
  pub mask : row.mask ≡ mask_of cell s
  pub left : row.left ≡ work_from cell s true
  pub on : row.on.0 ≡ resource_at cell s
  pub on_within : row.on.0 < length cell.resources
  pub works : row.works ≡ works_at cell s
  pub first : option_map (stage s.kind) row.first ≡ successor cell s 0
  pub first_within : IfSome row.first (λ place. IsStage cell (stage s.kind place))

-- a row for each stage
pub record AreRows (cell : Cell) (rows : List Row) : Type 0 where
  pub complete : length rows ≡ length (stages cell)
  pub each : (n : ℕ) (row : Row) → slice_get rows n ≡ Some row → IsRowOf cell (stage_numbered cell n) row
