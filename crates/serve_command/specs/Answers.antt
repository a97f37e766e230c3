-- The lines that answer asks, one after the other.
use Rattle.std.specs.Prelude.{codes, ℕ, ◌+◌, ◌-◌, min, List, [], ◌∷◌, ◌++◌, length, map, Option, Some, None}
use Rattle.std.specs.Fmt.{decimal}
use Rattle.std.specs.List.{last_or}
use Rattle.cell_base.specs.declared.cells.Cell.{Cell}
use Rattle.cell_base.specs.declared.requests.JobId.{JobId}
use Rattle.cell_base.specs.declared.requests.Part.{Part}
use Rattle.cell_base.specs.declared.requests.Refusal.{Refusal}
use Rattle.cell_base.specs.declared.requests.Reply.{Reply}
use Rattle.cell_base.specs.declared.requests.Reply.TheVariants.{Granted, Refused}
use Rattle.cell_base.specs.declared.requests.Request.{Request}
use Rattle.cell_base.specs.declared.requests.Told.{Told}
use Rattle.cell_base.specs.declared.requests.Told.TheVariants.{Answered, Halted}
use Rattle.cell_base.specs.declared.shifts.Entry.{Entry}
use Rattle.cell_base.specs.declared.shifts.Grant.{Grant}
use Rattle.cell_base.specs.Histories.{replay}
use Rattle.cell_base.specs.Named.{resource_name, type_name}
use Rattle.cell_base.specs.Outcomes.{part_of, reply_to}
use Rattle.cell_base.specs.Plans.{plan_step, resource_of_part}
use Rattle.cell_base.specs.Scripts.{granted_to}
use Rattle.record_text.specs.Lines.{entry_words, left_words, line_of, told_words, why_words}
use Rattle.step_text.specs.Steps.{done_word, request_words}
use Rattle.wait_queue.specs.declared.waiter.Waiter.{Waiter}
use Rattle.serve_command.specs.declared.asks.Ask.{Ask}
use Rattle.serve_command.specs.declared.asks.Ask.TheVariants.{Step, Wait, Count, Last, Why, Job, Next, Room, Left, Parts, Jobs}
use Rattle.serve_command.specs.declared.command.TheConstants.{MAX_SERVED}
use Rattle.serve_command.specs.Talks.{Cancels, Decides, Ends, Lists, Replies, Talk, Telling, Turns, Waits, entry_of, parts_in_the_way, said_to, talk_after_one}

-- what a request is told after these grants
abbrev pub reply_after : Cell → List Grant → Request → Reply
reply_after cell grants request = reply_to cell (replay cell grants) request

-- how many of these grants a session has
abbrev pub count_of : ℕ → List Grant → ℕ
count_of session grants = length (granted_to 0 session grants)

-- the words of what a session is told of its request
abbrev pub step_words : Cell → ℕ → Request → Told → List (List ℕ)
step_words cell session request told = entry_words cell (entry_of session request told)

-- the last request that was granted to a session
abbrev pub last_of : ℕ → List Grant → Option Request
last_of session grants = last_or None (granted_to 0 session grants)

-- a step, or that there is none
abbrev pub step_or_none : Cell → Option Request → List (List ℕ)
step_or_none cell (Some request) = request_words cell request
step_or_none cell None = codes "none" ∷ []

-- how many grants a session has, and the last of them
abbrev pub last_words : Cell → ℕ → ℕ → Option Request → List (List ℕ)
last_words cell session count last = decimal session ∷ codes "last" ∷ decimal count ∷ step_or_none cell last

-- where the part of a job stands: its type, its place of the route, the resource there, and whether its work is done
abbrev pub part_words : Cell → List ℕ → JobId → Part → List (List ℕ)
part_words cell word job part =
    word ∷ decimal job.0 ∷ type_name cell part.kind.0 ∷ decimal part.place ∷ resource_name cell (resource_of_part cell part)
    ∷ done_word part.done ∷ []

-- the line of a part in a list
abbrev pub item_line : Cell → List ℕ → Part → List ℕ
item_line cell word part = line_of (part_words cell word part.job part)

-- the same of a job, of which a part may be in the cell
abbrev pub job_words : Cell → JobId → Option Part → List (List ℕ)
job_words cell job (Some part) = part_words cell (codes "job") job part
job_words cell job None = codes "job" ∷ decimal job.0 ∷ codes "none" ∷ []

-- how many parts a list of a step has
abbrev pub jobs_words : Cell → Request → ℕ → List (List ℕ)
jobs_words cell request count = codes "jobs" ∷ request_words cell request ++ decimal count ∷ []

-- the words of the answer to a question after these grants, which is that of the line of this number
abbrev pub reply_words : Cell → List Grant → ℕ → Ask → List (List ℕ)
reply_words cell grants number (Count session) = decimal session ∷ codes "grants" ∷ decimal (count_of session grants) ∷ []
reply_words cell grants number (Last session) = last_words cell session (count_of session grants) (last_of session grants)
reply_words cell grants number (Why request) =
    codes "why" ∷ request_words cell request ++ told_words cell (Answered (reply_after cell grants request))
reply_words cell grants number (Job job) = job_words cell job (part_of (replay cell grants) job)
reply_words cell grants number Next = codes "next" ∷ step_or_none cell (plan_step cell (replay cell grants))
reply_words cell grants number Room = codes "room" ∷ decimal (MAX_SERVED - length grants) ∷ []
reply_words cell grants number Left = left_words (length (replay cell grants))
reply_words cell grants number Parts = codes "parts" ∷ decimal (length (replay cell grants)) ∷ []
reply_words cell grants number (Jobs request) = jobs_words cell request (length (parts_in_the_way cell (replay cell grants) request))
reply_words cell grants number _ = codes "line" ∷ codes "refused" ∷ decimal number ∷ []

-- the words of a session's request, and what is said of it
abbrev pub asked_words : Cell → ℕ → Request → List (List ℕ) → List (List ℕ)
asked_words cell session request more = decimal session ∷ request_words cell request ++ more

-- a reason, if there is one
abbrev pub reason_words : Cell → Option Refusal → List (List ℕ)
reason_words cell (Some why) = why_words cell why
reason_words cell None = []

-- how a wait ends
abbrev pub end_words : Cell → Told → List (List ℕ)
end_words cell (Answered Granted) = codes "served" ∷ []
end_words cell (Answered (Refused why)) = codes "dropped" ∷ why_words cell why
end_words cell Halted = codes "halted" ∷ []

-- the line of the end of a wait
abbrev pub ended_words : Cell → Entry → List (List ℕ)
ended_words cell entry = asked_words cell entry.session entry.request (end_words cell entry.told)

abbrev pub ended_line : Cell → Entry → List ℕ
ended_line cell entry = line_of (ended_words cell entry)

-- the words of a line of an answer
abbrev pub telling_words : Cell → List Grant → ℕ → Telling → List (List ℕ)
telling_words cell grants number (Decides entry) = entry_words cell entry
telling_words cell grants number (Waits session request why) = asked_words cell session request (codes "waits" ∷ why_words cell why)
telling_words cell grants number (Ends entry) = ended_words cell entry
telling_words cell grants number (Cancels session request) = decimal session ∷ codes "cancel" ∷ step_or_none cell request
telling_words cell grants number (Turns session request why) = asked_words cell session request (codes "refused" ∷ why ∷ [])
telling_words cell grants number (Lists word part) = part_words cell word part.job part
telling_words cell grants number (Replies ask) = reply_words cell grants number ask

-- the line
abbrev pub telling_line : Cell → List Grant → ℕ → Telling → List ℕ
telling_line cell grants number telling = line_of (telling_words cell grants number telling)

-- the answer to the ask of the line of this number: its own line, and one for each wait that it ends, or for each part that it lists
abbrev pub answer : Cell → Talk → ℕ → Ask → List (List ℕ)
answer cell talk number ask = map (telling_line cell talk.granted number) (said_to cell talk ask).told

-- the number that a line is known by: lines are counted as far as 64 bits go
abbrev pub line_number : ℕ → ℕ
line_number number = min number 18446744073709551615

-- the answers to asks in turn, the first of which is in the line of this number
abbrev pub answers : Cell → Talk → ℕ → List Ask → List (List ℕ)
answers cell talk number [] = []
answers cell talk number (ask ∷ asks) =
    answer cell talk (line_number number) ask ++ answers cell (talk_after_one cell talk ask) (number + 1) asks

-- the line of an ask whose grant could not be written
abbrev pub halted_line : Cell → Ask → List ℕ
halted_line cell (Step session request) = line_of (step_words cell session request Halted)
halted_line cell (Wait session request) = line_of (step_words cell session request Halted)
halted_line cell _ = []

-- ---- the end of the input

-- why a request is refused
abbrev pub refusal_words : Cell → Reply → List (List ℕ)
refusal_words cell Granted = []
refusal_words cell (Refused why) = why_words cell why

-- what a session is told that waits still: what its request would be told now
abbrev pub still_line : Cell → List Part → Waiter → List ℕ
still_line cell parts waiter =
    line_of (asked_words cell waiter.session waiter.request (codes "still" ∷ refusal_words cell (reply_to cell parts waiter.request)))

-- the lines of those that wait, in the order in which they began to
abbrev pub still_lines : Cell → List Part → List Waiter → List (List ℕ)
still_lines cell parts waiters = map (still_line cell parts) waiters
