-- Some rounds are over, in each of which one asked.
use Rattle.std.proofs.Common.{◌≤◌, ◌-◌, ◌*◌, ℕ, length}
use Rattle.cell_base.specs.Fits.{steps_of}
use Rattle.wait_board.specs.Boards.{asks_of}
use Rattle.board_rounds.specs.Rounds.{rounds}
use Rattle.board_rounds.specs.Underway.{HasBecome, IsReady}
use Rattle.board_rounds.proofs.rounds.ask_in_rounds.Given as goal

abbrev pub invariant-rounds : goal.invariant-rounds
invariant-rounds l =
    IsReady l.shift l.progress l.board
    × ((n : ℕ) × (n ≤ length (asks_of l.board.on.history)) × HasBecome l.fn.board (rounds n l.fn.board.cell l.shift l.fn.board.on) l.board)

abbrev pub decreases-rounds : goal.decreases-rounds
decreases-rounds l = steps_of l.shift * l.shift.patience - length (asks_of l.board.on.history)
