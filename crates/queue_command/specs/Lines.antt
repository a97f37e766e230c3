-- The lines of sessions that asked a board.
use Rattle.std.specs.Prelude.{codes, ℕ, List, [], ◌∷◌, ◌++◌, length, map, ⊤}
use Rattle.std.specs.Fmt.{decimal}
use Rattle.std.specs.List.{All}
use Rattle.cell_base.specs.declared.cells.Cell.{Cell}
use Rattle.cell_base.specs.declared.requests.Reply.{Reply}
use Rattle.cell_base.specs.declared.requests.Reply.TheVariants.{Granted, Refused}
use Rattle.cell_base.specs.declared.requests.Request.{Request}
use Rattle.cell_base.specs.Fits.{RequestFits}
use Rattle.cell_base.specs.Plans.{plan_of}
use Rattle.step_text.specs.Steps.{request_words}
use Rattle.record_text.specs.Fitting.{RefusalFits}
use Rattle.record_text.specs.Lines.{line_of, why_words}
use Rattle.wait_board.specs.declared.entries.BoardEntry.{BoardEntry}
use Rattle.wait_board.specs.declared.entries.BoardTold.{BoardTold}
use Rattle.wait_board.specs.declared.entries.BoardTold.TheVariants as told
use Rattle.wait_queue.specs.declared.waiter.Waiter.{Waiter}
use Rattle.wait_board.specs.Boards.{OnBoard}
use Rattle.record_printer.specs.Blocks.{Lines, left_lines}

-- the line of a session and a request, with words of what came of it
abbrev pub asked_line : Cell → ℕ → Request → List (List ℕ) → List ℕ
asked_line cell session request words = line_of (decimal session ∷ request_words cell request ++ words)

-- why a reply is no grant
abbrev pub reason_words : Cell → Reply → List (List ℕ)
reason_words cell Granted = []
reason_words cell (Refused why) = why_words cell why

-- what a session was told
abbrev pub told_words : Cell → BoardTold → List (List ℕ)
told_words cell told.Granted = codes "granted" ∷ []
told_words cell (told.Refused why) = codes "refused" ∷ why_words cell why
told_words cell (told.Waits why) = codes "waits" ∷ why_words cell why
told_words cell told.Served = codes "served" ∷ []
told_words cell (told.Dropped why) = codes "dropped" ∷ why_words cell why

-- the line of an entry
abbrev pub entry_line : Cell → BoardEntry → List ℕ
entry_line cell entry = asked_line cell entry.session entry.request (told_words cell entry.told)

-- the line of a session that waits at the end
abbrev pub still_line : Cell → Waiter → List ℕ
still_line cell waiter = asked_line cell waiter.session waiter.request (codes "still" ∷ why_words cell waiter.refusal)

-- each entry, in their order, and then each session that waits, in the order in which they began to
abbrev pub told_lines : Cell → OnBoard → Lines
told_lines cell on = map (entry_line cell) on.history ++ map (still_line cell) on.waiters

-- the lines of a board: what was told, what is left, and its plan
unfoldable pub board_lines : Cell → OnBoard → Lines
board_lines cell on = told_lines cell on ++ left_lines cell (length on.parts) (plan_of cell on.parts)

-- ---- entries that have a line

-- a refusal names a resource of the cell, if any
abbrev pub BoardToldFits : Cell → BoardTold → Type 0
BoardToldFits cell told.Granted = ⊤
BoardToldFits cell (told.Refused why) = RefusalFits cell why
BoardToldFits cell (told.Waits why) = RefusalFits cell why
BoardToldFits cell told.Served = ⊤
BoardToldFits cell (told.Dropped why) = RefusalFits cell why

-- the ids of its request and of what was told are the cell's
pub record BoardEntryFits (cell : Cell) (entry : BoardEntry) : Type 0 where
  pub request : RequestFits cell entry.request
  pub told : BoardToldFits cell entry.told

-- the same of a session that waits
pub record WaiterFits (cell : Cell) (waiter : Waiter) : Type 0 where
  pub request : RequestFits cell waiter.request
  pub refusal : RefusalFits cell waiter.refusal

-- and of all that stands on a board
pub record BoardFits (cell : Cell) (on : OnBoard) : Type 0 where
  pub entries : All (BoardEntryFits cell) on.history
  pub waiters : All (WaiterFits cell) on.waiters
