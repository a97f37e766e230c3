-- A shift that ran under the hybrid policy, and what is printed of it.
use Rattle.std.specs.Prelude.{◌≡◌, ℕ, List, []}
use Rattle.cell_base.specs.declared.cells.Cell.{Cell}
use Rattle.cell_base.specs.declared.shifts.Shift.{Shift}
use Rattle.banker_check.specs.Hybrid.{IsHybrid}
use Rattle.hybrid_rounds.specs.Histories.{after_h}
use Rattle.hybrid_rounds.specs.Rounds.{IsHybridRoundRobin}
use Rattle.hybrid_command.specs.declared.command.HybridRun.{HybridRun}
use Rattle.hybrid_command.specs.Lines.{block_of}

-- the lines of its record: its history, and the plan that empties the cell
abbrev pub lines_of_run : HybridRun → List (List ℕ)
lines_of_run run = block_of run.hybrid run.number run.history.items

-- its sessions went in rounds on the empty cell, and it was kept in hybrid states
pub record IsHybridRun (cell : Cell) (shift : Shift) (run : HybridRun) : Type 0 where
  pub on : run.hybrid.cell ≡ cell
  pub numbered : run.number ≡ shift.number
  pub rounds : IsHybridRoundRobin cell [] shift run.history.items
  pub left : run.hybrid.parts ≡ after_h cell [] run.history.items
  pub kept : IsHybrid cell (after_h cell [] run.history.items)
