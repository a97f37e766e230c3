-- What stands on a board, and what an ask makes of it.
use Rattle.std.specs.Prelude.{ℕ, zero, suc, Bool, true, false, if◌then◌else◌, List, [], ◌∷◌, ◌++◌, length, map}
use Rattle.std.specs.List.{find, filter}
use Rattle.std.specs.Option.{option_map_or}
use Rattle.cell_base.specs.declared.cells.Cell.{Cell}
use Rattle.cell_base.specs.declared.requests.Part.{Part}
use Rattle.cell_base.specs.declared.requests.Request.{Request}
use Rattle.cell_base.specs.declared.requests.Refusal.{Refusal}
use Rattle.cell_base.specs.declared.requests.Reply.{Reply}
use Rattle.cell_base.specs.declared.requests.Reply.TheVariants.{Granted, Refused}
use Rattle.cell_base.specs.Outcomes.{reply_to, state_after}
use Rattle.policy_laws.specs.Decisions.{is_saturation}
use Rattle.wait_queue.specs.declared.waiter.Waiter.{Waiter}
use Rattle.wait_queue.specs.Waiting.{is_ready, renewed, without_first}
use Rattle.wait_board.specs.declared.entries.BoardReply.{BoardReply}
use Rattle.wait_board.specs.declared.entries.BoardReply.TheVariants as answers
use Rattle.wait_board.specs.declared.entries.BoardTold.{BoardTold}
use Rattle.wait_board.specs.declared.entries.BoardTold.TheVariants as told
use Rattle.wait_board.specs.declared.entries.BoardEntry.{BoardEntry}

-- the parts, those that wait in the order in which they began to, and what was told so far
pub record OnBoard : Type 0 where
  pub parts : List Part
  pub waiters : List Waiter
  pub history : List BoardEntry

-- an entry
abbrev pub entry : ℕ → Request → BoardTold → BoardEntry
entry session request told = record { session = session; request = request; told = told }

-- what a reply tells one that waited
abbrev pub end_of_wait : Reply → BoardTold
end_of_wait Granted = told.Served
end_of_wait (Refused why) = told.Dropped why

-- a waiter that is ready is after_wait, and leaves
abbrev pub after_wait : Cell → OnBoard → Waiter → OnBoard
after_wait cell on waiter = record {
  parts = state_after cell on.parts waiter.request;
  waiters = without_first (is_ready cell on.parts) on.waiters;
  history = on.history ++ entry waiter.session waiter.request (end_of_wait (reply_to cell on.parts waiter.request)) ∷ [];
}

-- where nobody is ready each waiter keeps its refusal
abbrev pub all_renewed : Cell → OnBoard → OnBoard
all_renewed cell on = record on { waiters = map (renewed cell on.parts) on.waiters }

-- the first waiter that is ready is after_wait, and so on, in at most so many steps
abbrev pub scan_within : ℕ → Cell → OnBoard → OnBoard
scan_within zero cell on = all_renewed cell on
scan_within (suc n) cell on =
    option_map_or (λ waiter. scan_within n cell (after_wait cell on waiter))
    (find (is_ready cell on.parts) on.waiters) (all_renewed cell on)

-- the whole scan: each step takes a waiter out
abbrev pub scan : Cell → OnBoard → OnBoard
scan cell on = scan_within (length on.waiters) cell on

-- the board_reply to an ask
abbrev pub board_reply : Reply → BoardReply
board_reply Granted = answers.Granted
board_reply (Refused why) = if is_saturation why then answers.Waits why else answers.Refused why

-- an entry that only tells
abbrev pub noted : OnBoard → ℕ → Request → BoardTold → OnBoard
noted on session request told = record on { history = on.history ++ entry session request told ∷ [] }

-- a session waits from now on
abbrev pub with_waiter : OnBoard → ℕ → Request → Refusal → OnBoard
with_waiter on session request why = record (noted on session request (told.Waits why)) {
  waiters = on.waiters ++ record { session = session; request = request; refusal = why } ∷ [];
}

-- what an board_reply makes of a board
abbrev pub told_on : Cell → OnBoard → ℕ → Request → Reply → OnBoard
told_on cell on session request Granted =
    scan cell (record (noted on session request told.Granted) { parts = state_after cell on.parts request })
told_on cell on session request (Refused why) =
    if is_saturation why then with_waiter on session request why else noted on session request (told.Refused why)

-- what an ask makes of a board
abbrev pub board : Cell → OnBoard → ℕ → Request → OnBoard
board cell on session request = told_on cell on session request (reply_to cell on.parts request)

-- an empty board at these parts
abbrev pub opened : List Part → OnBoard
opened parts = record { parts = parts; waiters = []; history = [] }

-- what was told answers an ask, and does not end a wait
abbrev pub is_answer : BoardTold → Bool
is_answer told.Served = false
is_answer (told.Dropped why) = false
is_answer _ = true

-- the asks of a history, in their order
abbrev pub asks_of : List BoardEntry → List BoardEntry
asks_of history = filter (λ entry. is_answer entry.told) history

-- what was told changed the parts
abbrev pub takes_effect : BoardTold → Bool
takes_effect told.Granted = true
takes_effect told.Served = true
takes_effect _ = false

-- the parts after a history: its granted and served requests took effect, in their order
abbrev pub parts_after : Cell → List Part → List BoardEntry → List Part
parts_after cell parts [] = parts
parts_after cell parts (entry ∷ entries) =
    parts_after cell (if takes_effect entry.told then state_after cell parts entry.request else parts) entries

-- what a board comes to by asks in their order
abbrev pub asked_in_turn : Cell → OnBoard → List BoardEntry → OnBoard
asked_in_turn cell on [] = on
asked_in_turn cell on (ask ∷ asks) = asked_in_turn cell (board cell on ask.session ask.request) asks
