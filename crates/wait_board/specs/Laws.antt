-- How a board's scan and the queue's go together.
use Rattle.std.specs.Prelude.{◌≡◌, List, [], ◌∷◌, ◌++◌}
use Rattle.cell_base.specs.declared.cells.Cell.{Cell}
use Rattle.cell_base.specs.declared.requests.Told.{Told}
use Rattle.cell_base.specs.declared.requests.Told.TheVariants.{Answered, Halted}
use Rattle.cell_base.specs.declared.shifts.Entry.{Entry}
use Rattle.wait_queue.specs.Waiting.{Waiting, served, waiting}
use Rattle.wait_board.specs.declared.entries.BoardEntry.{BoardEntry}
use Rattle.wait_board.specs.Boards.{OnBoard, all_renewed, end_of_wait, entry, scan}

-- the entry of a board for the end of a wait; none where nothing was decided
abbrev pub end_in : Entry → Told → List BoardEntry
end_in end (Answered reply) = entry end.session end.request (end_of_wait reply) ∷ []
end_in end Halted = []

abbrev pub ends_of : List Entry → List BoardEntry
ends_of [] = []
ends_of (end ∷ ends) = end_in end end.told ++ ends_of ends

-- a board after a queue's scan: its parts and waiters, and the ends of the waits behind the history
abbrev pub with_ends : List BoardEntry → Waiting → OnBoard
with_ends history after = record { parts = after.parts; waiters = after.waiters; history = history ++ ends_of after.told }

-- a board's scan is the queue's, and then each waiter keeps its refusal
abbrev pub ScanLaw : Cell → Type 0
ScanLaw cell =
    (on : OnBoard) → scan cell on ≡ all_renewed cell (with_ends on.history (served cell (waiting on.parts on.waiters [])))
