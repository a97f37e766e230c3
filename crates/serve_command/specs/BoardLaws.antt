-- A conversation in which each step may wait goes as a board does.
use Rattle.std.specs.Prelude.{◌≡◌, List, [], ◌∷◌, ◌++◌, ⊤}
use Rattle.std.specs.List.{All}
use Rattle.cell_base.specs.declared.cells.Cell.{Cell}
use Rattle.cell_base.specs.declared.requests.Reply.{Reply}
use Rattle.cell_base.specs.declared.requests.Reply.TheVariants.{Granted, Refused}
use Rattle.cell_base.specs.declared.requests.Told.{Told}
use Rattle.cell_base.specs.declared.requests.Told.TheVariants.{Answered, Halted}
use Rattle.cell_base.specs.declared.shifts.Entry.{Entry}
use Rattle.cell_base.specs.declared.shifts.Grant.{Grant}
use Rattle.cell_base.specs.Histories.{replay}
use Rattle.wait_board.specs.declared.entries.BoardEntry.{BoardEntry}
use Rattle.wait_board.specs.declared.entries.BoardTold.{BoardTold}
use Rattle.wait_board.specs.declared.entries.BoardTold.TheVariants as told
use Rattle.wait_board.specs.Boards.{asked_in_turn, asks_of, entry}
use Rattle.wait_board.specs.Boards as board
use Rattle.wait_board.specs.Laws.{end_in}
use Rattle.serve_command.specs.Talks.{Decides, Ends, Telling, Waits, opened, told_in_turn}
use Rattle.serve_command.specs.declared.asks.Ask.{Ask}
use Rattle.serve_command.specs.declared.asks.Ask.TheVariants.{Step, Cancel}

-- what a board tells of a step that it decides at once
abbrev pub decision : Reply → BoardTold
decision Granted = told.Granted
decision (Refused why) = told.Refused why

-- the entry of a board for it; none where nothing was decided
abbrev pub decision_in : Entry → Told → List BoardEntry
decision_in answered (Answered reply) = entry answered.session answered.request (decision reply) ∷ []
decision_in answered Halted = []

-- the entry of a board for a line: none where nothing is decided
abbrev pub board_entries_of : Telling → List BoardEntry
board_entries_of (Decides answered) = decision_in answered answered.told
board_entries_of (Waits session request why) = entry session request (told.Waits why) ∷ []
board_entries_of (Ends end) = end_in end end.told
board_entries_of _ = []

-- the entries of a board for lines
abbrev pub board_entries : List Telling → List BoardEntry
board_entries [] = []
board_entries (telling ∷ tellings) = board_entries_of telling ++ board_entries tellings

-- a step that is asked may wait, and no wait is cancelled
abbrev pub IsBoardAsk : Ask → Type 0
IsBoardAsk (Step session request) = ⊥
IsBoardAsk (Cancel session) = ⊥
IsBoardAsk _ = ⊤

-- where all asks are such, what is told is the history of a board of the same opening, of which the same is asked
abbrev pub BoardLaw : Cell → Type 0
BoardLaw cell = (opening : List Grant) (asked : List Ask) → All IsBoardAsk asked
    → let history = board_entries (told_in_turn cell (opened opening) asked) in
    (asked_in_turn cell (board.opened (replay cell opening)) (asks_of history)).history ≡ history
