-- A shift that ran on the empty cell.
use Rattle.std.specs.Prelude.{◌≡◌, []}
use Rattle.cell_base.specs.declared.cells.Cell.{Cell}
use Rattle.cell_base.specs.declared.shifts.Shift.{Shift}
use Rattle.cell_base.specs.Histories.{after}
use Rattle.cell_base.specs.Rounds.{IsRoundRobin}
use Rattle.solo_rounds.specs.declared.runs.SoloRun.{SoloRun}

-- its sessions went in rounds on the empty cell
pub record IsSoloRun (cell : Cell) (shift : Shift) (run : SoloRun) : Type 0 where
  pub on : run.core.cell ≡ cell
  pub numbered : run.number ≡ shift.number
  pub rounds : IsRoundRobin cell [] shift run.history.items
  pub left : run.core.parts ≡ after cell [] run.history.items
