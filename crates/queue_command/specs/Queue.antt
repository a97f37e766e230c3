-- `queue CELL SHIFT`: the sessions of a shift ask a board over the empty cell, in rounds.
use Rattle.std.specs.Prelude.{◌≡◌, ℕ, List, [], length}
use Rattle.std.specs.List.{All}
use Rattle.cell_base.specs.declared.cells.Cell.{Cell}
use Rattle.cell_base.specs.declared.shifts.Shift.{Shift}
use Rattle.cell_base.specs.Plans.{Drains, plan_of}
use Rattle.wait_board.specs.Boards.{OnBoard}
use Rattle.wait_board.specs.BoardState.{IsWaiting}
use Rattle.board_rounds.specs.Rounds.{NobodyAsks, queue_run}
use Rattle.cell_walks.specs.Outcomes.{Outcome, done}
use Rattle.cell_walks.specs.Walks.{Walk, Tests, Answers}
use Rattle.cell_texts.specs.Tests.{KnownCell, cell_file, shift_file}
use Rattle.queue_command.specs.Lines.{board_lines}

-- At the end of the rounds each session has ended or waits, each that waits does so for a full neighborhood, and the plan of the parts that
-- are left drains them.
pub record IsAtRest (cell : Cell) (shift : Shift) (on : OnBoard) : Type 0 where
  pub over : NobodyAsks shift on
  pub waits : All (IsWaiting cell on.parts (length shift.scripts)) on.waiters
  pub drains : Drains cell on.parts (plan_of cell on.parts)

-- the lines of the board are printed to which the sessions of the shift bring the empty cell
pub record IsQueued (cell : Cell) (shift : Shift) (outcome : Outcome) : Type 0 where
  pub printed : outcome ≡ done (board_lines cell (queue_run cell [] shift))
  pub rest : IsAtRest cell shift (queue_run cell [] shift)

-- its walk from the cell on
abbrev pub play_queue : List ℕ → KnownCell → Walk
play_queue shift held =
    Tests (shift_file held.cell shift) λ s.
    Answers λ input outcome. IsQueued held.cell s outcome

abbrev pub queue : List ℕ → List ℕ → Walk
queue cell shift = Tests (cell_file cell) (play_queue shift)
