-- What follows of the answers: nobody waits that could be granted, each line is answered once, each wait ends once, each grant is counted
-- once, and the steps are one legal history, of which the output is the record.
use Rattle.std.specs.Prelude.{◌≡◌, ℕ, ◌+◌, ◌≤◌, ◌==◌, Bool, true, false, ◌&&◌, Some, List, ◌++◌, length, ⊤}
use Rattle.std.specs.List.{All, filter}
use Rattle.cell_base.specs.declared.cells.Cell.{Cell}
use Rattle.cell_base.specs.declared.requests.Request.{Request}
use Rattle.cell_base.specs.declared.shifts.Entry.{Entry}
use Rattle.cell_base.specs.declared.shifts.Grant.{Grant}
use Rattle.cell_base.specs.Histories.{IsLegal, grants, replay, was_granted}
use Rattle.record_printer.specs.Blocks.{history_lines}
use Rattle.wait_queue.specs.declared.waiter.Waiter.{Waiter}
use Rattle.wait_queue.specs.Waiting.{is_of_session}
use Rattle.serve_command.specs.Answers.{count_of}
use Rattle.serve_command.specs.Talks.{Cancels, Decides, Ends, IsSettled, Lists, Talk, Telling, Waits, entries_in, opened, since, talk_after, told_in_turn}
use Rattle.serve_command.specs.Serve.{answered_lines}
use Rattle.serve_command.specs.declared.asks.Ask.{Ask}
use Rattle.serve_command.specs.declared.asks.Ask.TheVariants.{Step}

-- ---- who waits

-- after any asks nobody waits who could be granted, and nobody who is to be dropped
abbrev pub StaysSettled : Cell → Type 0
StaysSettled cell = (opening : List Grant) (asked : List Ask) → IsSettled cell (talk_after cell (opened opening) asked)

-- ---- each line is answered once

-- the line answers one that was sent: it ends no wait, and is no part of a list
abbrev pub is_answer : Telling → Bool
is_answer (Ends entry) = false
is_answer (Lists word part) = false
is_answer _ = true

-- how many lines pass a test
abbrev pub told_times : (Telling → Bool) → List Telling → ℕ
told_times test told = length (filter test told)

-- as many lines answer as were sent; all others end waits, or are parts of lists
abbrev pub AnswersEach : Cell → Type 0
AnswersEach cell = (talk : Talk) (asked : List Ask) → told_times is_answer (told_in_turn cell talk asked) ≡ length asked

-- ---- each wait ends once

-- The lines that tell of a session's step ..
abbrev pub StepTest : Type 0
StepTest = ℕ → Request → Bool

-- .. that it waits from now on,
abbrev pub is_told_waits : StepTest → Telling → Bool
is_told_waits test (Waits session request why) = test session request
is_told_waits test _ = false

-- that its wait ends, as it is served or dropped,
abbrev pub is_told_end : StepTest → Telling → Bool
is_told_end test (Ends entry) = test entry.session entry.request
is_told_end test _ = false

-- or that it was cancelled
abbrev pub is_told_cancelled : StepTest → Telling → Bool
is_told_cancelled test (Cancels session (Some request)) = test session request
is_told_cancelled test _ = false

-- how many of those that wait pass a test
abbrev pub waiting_times : StepTest → List Waiter → ℕ
waiting_times test waiters = length (filter (λ (waiter : Waiter). test waiter.session waiter.request) waiters)

-- No session waits twice. Of whichever steps of whichever sessions: as many waits as were told have ended, were cancelled, or last.
pub record EndsEachWait (cell : Cell) (opening : List Grant) (asked : List Ask) : Type 0 where
  pub once : (session : ℕ) → length (filter (is_of_session session) (talk_after cell (opened opening) asked).waiters) ≤ 1
  pub ended : (test : StepTest) → let told = told_in_turn cell (opened opening) asked in
      told_times (is_told_waits test) told
      ≡ told_times (is_told_end test) told + told_times (is_told_cancelled test) told
      + waiting_times test (talk_after cell (opened opening) asked).waiters

-- ---- each grant is counted once

-- the line tells this session that a step of it is granted: `granted`, or `served` at the end of a wait
abbrev pub is_told_granted : ℕ → Telling → Bool
is_told_granted session (Decides entry) = was_granted entry.told && (entry.session == session)
is_told_granted session (Ends entry) = was_granted entry.told && (entry.session == session)
is_told_granted session _ = false

-- the number of a session's grants grows by one at each line that tells it of a grant, and at no other
abbrev pub EachOnce : Cell → Type 0
EachOnce cell = (talk : Talk) (session : ℕ) (asked : List Ask)
    → count_of session (talk.granted ++ since cell talk asked)
    ≡ count_of session talk.granted + told_times (is_told_granted session) (told_in_turn cell talk asked)

-- ---- one history

-- the history of asks in turn: an entry of each decision, those that end a wait among them
abbrev pub history_of : Cell → Talk → List Ask → List Entry
history_of cell talk asked = entries_in (told_in_turn cell talk asked)

-- it is legal after the grants of the opening, as if a single thread had asked, and its grants are those that are added
pub record IsServedHistory (cell : Cell) (opening : List Grant) (asked : List Ask) : Type 0 where
  pub legal : IsLegal cell (replay cell opening) (history_of cell (opened opening) asked)
  pub granted : opening ++ grants 0 (history_of cell (opened opening) asked) ≡ (talk_after cell (opened opening) asked).granted

-- ---- a record

-- it is a step
abbrev pub IsAskedStep : Ask → Type 0
IsAskedStep (Step session request) = ⊤
IsAskedStep _ = ⊥

-- where steps alone are asked, and none waits, what is put is a block of a record
abbrev pub IsBlock : Cell → List Grant → List Ask → Type 0
IsBlock cell opening asked =
    All IsAskedStep asked
    → answered_lines cell opening asked ≡ history_lines cell 0 (length opening) (history_of cell (opened opening) asked)
