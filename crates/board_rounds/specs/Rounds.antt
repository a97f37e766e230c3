-- The history of sessions that ask a board in rounds.
use Rattle.std.specs.Prelude.{ℕ, zero, suc, ◌*◌, ◌==◌, nat_lt, ◌&&◌, if◌then◌else◌, Option}
use Rattle.std.specs.Prelude.{Some, None, List, [], ◌∷◌, ◌≡◌, length, slice_get}
use Rattle.std.specs.List.{filter}
use Rattle.std.specs.Option.{option_map_or, is_none}
use Rattle.cell_base.specs.declared.cells.Cell.{Cell}
use Rattle.cell_base.specs.declared.requests.Part.{Part}
use Rattle.cell_base.specs.declared.requests.Reply.{Reply}
use Rattle.cell_base.specs.declared.requests.Reply.TheVariants.{Granted, Refused}
use Rattle.cell_base.specs.declared.requests.Request.{Request}
use Rattle.cell_base.specs.declared.requests.Told.TheVariants.{Answered}
use Rattle.cell_base.specs.declared.shifts.Shift.{Shift}
use Rattle.cell_base.specs.Fits.{steps_of}
use Rattle.cell_base.specs.Rounds.{IsSession}
use Rattle.cell_base.specs.Scripts.{Progress, begin_at, progress_after, script_of}
use Rattle.wait_board.specs.declared.entries.BoardTold.{BoardTold}
use Rattle.wait_board.specs.declared.entries.BoardTold.TheVariants as told
use Rattle.wait_board.specs.declared.entries.BoardEntry.{BoardEntry}
use Rattle.wait_queue.specs.Waiting.{waiter_of}
use Rattle.wait_board.specs.Boards.{OnBoard, board, opened}

-- the reply to a session's present step that an entry tells; that it waits is none yet
abbrev pub reply_in : BoardTold → Option Reply
reply_in told.Granted = Some Granted
reply_in told.Served = Some Granted
reply_in (told.Refused why) = Some (Refused why)
reply_in (told.Dropped why) = Some (Refused why)
reply_in (told.Waits why) = None

-- where a session stands when it was told: a grant brings the next step, a refusal counts towards the patience, a wait leaves it
abbrev pub progress_told : Progress → BoardTold → Progress
progress_told at told = option_map_or (λ reply. progress_after at (Answered reply)) (reply_in told) at

-- where it stands after its entries
abbrev pub progress_by : Progress → List BoardEntry → Progress
progress_by at [] = at
progress_by at (entry ∷ entries) = progress_by (progress_told at entry.told) entries

-- where a session stands after a history
abbrev pub progress_in : List BoardEntry → ℕ → Progress
progress_in history session = progress_by (begin_at 0) (filter (λ entry. entry.session == session) history)

-- the present step of a session, where it has neither ended nor waits
abbrev pub present_step : Shift → OnBoard → ℕ → Option Request
present_step shift on session =
    let at = progress_in on.history session in
    if nat_lt at.refusals shift.patience && is_none (waiter_of on.waiters session)
    then slice_get (script_of shift session) at.step
    else None

-- a session has its turn: it asks its present step, if there is one
abbrev pub turn : Cell → Shift → OnBoard → ℕ → OnBoard
turn cell shift on session = option_map_or (λ request. board cell on session request) (present_step shift on session) on

-- the sessions 1 to n have their turns, in this order
abbrev pub turns : Cell → Shift → OnBoard → ℕ → OnBoard
turns cell shift on zero = on
turns cell shift on (suc n) = turn cell shift (turns cell shift on n) (suc n)

-- each session has its turn
abbrev pub round : Cell → Shift → OnBoard → OnBoard
round cell shift on = turns cell shift on (length shift.scripts)

-- so many rounds
abbrev pub rounds : ℕ → Cell → Shift → OnBoard → OnBoard
rounds zero cell shift on = on
rounds (suc n) cell shift on = round cell shift (rounds n cell shift on)

-- as many rounds as there can be asks: after a round in which none asked, each is such a round, and leaves the board
unfoldable pub queue_run : Cell → List Part → Shift → OnBoard
queue_run cell parts shift = rounds (steps_of shift * shift.patience) cell shift (opened parts)

-- no session has a present step: each one has ended or waits, and one more round leaves the board
abbrev pub NobodyAsks : Shift → OnBoard → Type 0
NobodyAsks shift on = (session : ℕ) → IsSession shift session → present_step shift on session ≡ None
