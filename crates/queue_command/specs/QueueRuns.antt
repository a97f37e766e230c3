-- A board on which the rounds are over.
use Rattle.std.specs.Prelude.{◌≡◌, []}
use Rattle.cell_base.specs.declared.cells.Cell.{Cell}
use Rattle.cell_base.specs.declared.shifts.Shift.{Shift}
use Rattle.wait_board.specs.BoardState.{BoardState}
use Rattle.board_rounds.specs.Rounds.{queue_run}
use Rattle.queue_command.specs.Queue.{IsAtRest}

-- the sessions of the shift brought the empty cell to it
pub record IsQueueRun (cell : Cell) (shift : Shift) (board : BoardState) : Type 0 where
  pub on_cell : board.cell ≡ cell
  pub run : board.on ≡ queue_run cell [] shift
  pub rest : IsAtRest cell shift (queue_run cell [] shift)
