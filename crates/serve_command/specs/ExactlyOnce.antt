-- What each moment of a live conversation tells a client of each file that a crash then may leave, and of a conversation that is opened on
-- it.
use Rattle.std.specs.Prelude.{◌≡◌, ◌⊎◌, ◌==◌, ℕ, ◌+◌, ◌≤◌, Bool, false, cond, codes, List, [], ◌∷◌, ◌++◌, length, take, Some}
use Rattle.std.specs.Fmt.{decimal}
use Rattle.cell_base.specs.declared.shifts.Grant.{Grant}
use Rattle.cell_base.specs.Histories.{grants}
use Rattle.journal_format.specs.Journals.{StandsFor}
use Rattle.record_text.specs.Lines.{line_of}
use Rattle.peers.specs.Moments.{Moment}
use Rattle.serve_command.specs.Answers.{answer, count_of}
use Rattle.serve_command.specs.Laws.{is_told_granted, told_times}
use Rattle.serve_command.specs.Lives.{AreSent, Ending, Halting, IsLive, Ready, Serving, Start, grants_then, talk_then}
use Rattle.serve_command.specs.Talks.{Cancels, Decides, Ends, Telling, Turns, entries_in, opened, said_to, told_in_turn}
use Rattle.serve_command.specs.declared.asks.Ask.{Ask}
use Rattle.serve_command.specs.declared.asks.Ask.TheVariants.{Step, Wait, Count}
use Rattle.serve_command.specs.declared.replies.TheConstants.{GROUP_LINES}

-- the asks that are answered by a moment: all lines of their answers are put whole, or are refusals in a group that halts
abbrev pub answered_by : {start : Start} {at : Moment} → IsLive start at → List Ask
answered_by (Ready given room put image) = []
answered_by (Serving serving) = serving.earlier ++ serving.shown
answered_by (Halting halting) = halting.earlier ++ halting.before
answered_by (Ending ending) = ending.asked

-- those that were decided with them and are not answered
abbrev pub unanswered_by : {start : Start} {at : Moment} → IsLive start at → List Ask
unanswered_by (Ready given room put image) = []
unanswered_by (Serving serving) = serving.rest
unanswered_by (Halting halting) = halting.next ∷ halting.rest
unanswered_by (Ending ending) = []

-- what the answers to asks in turn tell
abbrev pub told_then : Start → List Ask → List Telling
told_then start asks = told_in_turn start.cell (opened start.opening) asks

-- what the answer to the next of these asks tells
abbrev pub next_told : Start → List Ask → List Ask → List Telling
next_told start earlier [] = []
next_told start earlier (next ∷ rest) = (said_to start.cell (talk_then start earlier) next).told

-- the lines that are put whole by a moment: those of the answered asks, and the first ones of the next answer
abbrev pub told_by : (start : Start) {at : Moment} → IsLive start at → List Telling
told_by start (Ready given room put image) = []
told_by start (Serving serving) =
    told_then start (serving.earlier ++ serving.shown)
    ++ take (length serving.put.whole) (next_told start (serving.earlier ++ serving.shown) serving.rest)
told_by start (Halting halting) = told_then start (halting.earlier ++ halting.before)
told_by start (Ending ending) = told_then start ending.asked

-- the grants of the opening, and those that are told by lines
abbrev pub granted_by : Start → List Telling → List Grant
granted_by start told = start.opening ++ grants 0 (entries_in told)

-- each file has each grant that is told by a line that is put whole, as granted or as served, and maybe more after them
abbrev pub Acknowledged : Start → Type 0
Acknowledged start = (at : Moment) (live : IsLive start at)
    → (more : List Grant) × StandsFor at.image start.text (granted_by start (told_by start live) ++ more)

-- At most one group is unanswered: each file stands for the grants of the answered asks, without those of the others or with all of them.
abbrev pub OneGroup : Start → Type 0
OneGroup start = (at : Moment) (live : IsLive start at) → (length (unanswered_by live) ≤ GROUP_LINES)
    × ((next : List Grant) → StandsFor at.image start.text next
    → (next ≡ grants_then start (answered_by live)) ⊎ (next ≡ grants_then start (answered_by live ++ unanswered_by live)))

-- ---- exactly once

-- the ask is a step of this session
abbrev pub is_step_of : ℕ → Ask → Bool
is_step_of session (Step asking request) = asking == session
is_step_of session (Wait asking request) = asking == session
is_step_of session _ = false

-- how many of these asks are
abbrev pub steps_of : ℕ → List Ask → ℕ
steps_of session [] = 0
steps_of session (ask ∷ asks) = cond (is_step_of session ask) 1 0 + steps_of session asks

-- the line is the last of a step of this session: what becomes of it is told
abbrev pub is_last_of : ℕ → Telling → Bool
is_last_of session (Decides entry) = entry.session == session
is_last_of session (Ends entry) = entry.session == session
is_last_of session (Turns asking request why) = asking == session
is_last_of session (Cancels asking (Some request)) = asking == session
is_last_of session _ = false

-- so many grants of a session were there at the opening, or were told by these lines
abbrev pub told_to : Start → ℕ → List Telling → ℕ
told_to start session told = count_of session start.opening + told_times (is_told_granted session) told

-- the answer to `K grants` with this count
abbrev pub grants_line : ℕ → ℕ → List ℕ
grants_line session count = line_of (decimal session ∷ codes "grants" ∷ decimal count ∷ [])

-- Where of at most one step of a session it is not told what becomes of it, a step that waits being one of these, a conversation that is
-- opened on a file that a crash may leave, after the grants for which it stands, answers `K grants` by the count that the session was told,
-- or by one more.
abbrev pub ExactlyOnce : Start → Type 0
ExactlyOnce start = (at : Moment) (live : IsLive start at) (session : ℕ)
    → steps_of session (answered_by live ++ unanswered_by live) ≤ told_times (is_last_of session) (told_by start live) + 1
    → (next : List Grant) → StandsFor at.image start.text next
    → let told = told_to start session (told_by start live) in
    (answer start.cell (opened next) 1 (Count session) ≡ grants_line session told ∷ [])
    ⊎ (answer start.cell (opened next) 1 (Count session) ≡ grants_line session (told + 1) ∷ [])

-- The grants for which such a file stands are those of the first asks that were sent, and the journal has room for them: so what is asked
-- of that conversation goes on after these asks, as one history.
abbrev pub GoesOn : Start → Type 0
GoesOn start = (at : Moment) (live : IsLive start at) (next : List Grant) → StandsFor at.image start.text next
    → (asks : List Ask) × AreSent start asks at × (next ≡ grants_then start asks)
