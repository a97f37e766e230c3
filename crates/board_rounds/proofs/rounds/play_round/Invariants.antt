-- The sessions so far have had their turns.
use Rattle.std.proofs.Common.{◌≡◌, ◌<◌, ◌≤◌, ◌+◌, ℕ, None, length}
use Rattle.std.specs.Bool.{OnTrue, OnFalse}
use Rattle.wait_board.specs.Boards.{asks_of}
use Rattle.board_rounds.specs.Rounds.{present_step, turns}
use Rattle.board_rounds.specs.Underway.{HasBecome, IsReady}
use Rattle.board_rounds.proofs.rounds.play_round.Given as goal

abbrev pub invariant-loop-k : goal.invariant-loop-k
invariant-loop-k l =
    IsReady l.shift l.progress l.board
    × HasBecome l.fn.board (turns l.fn.board.cell l.shift l.fn.board.on l.k) l.board
    × (length (asks_of l.fn.board.on.history) ≤ length (asks_of l.board.on.history))
    × OnTrue l.asked (length (asks_of l.fn.board.on.history) < length (asks_of l.board.on.history))
    × OnFalse l.asked ((l.board.on ≡ l.fn.board.on) × ((j : ℕ) → j < l.k → present_step l.shift l.fn.board.on (j + 1) ≡ None))
