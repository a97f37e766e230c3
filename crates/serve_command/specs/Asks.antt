-- What a line asks.
use Rattle.std.specs.Prelude.{codes, ◌≡◌, ◌≤◌, ℕ, Bool, false, if◌then◌else◌, nat_le, List, []}
use Rattle.std.specs.Prelude.{◌∷◌, length, map, Option, Some, None, Result, Ok, Err, ⊤}
use Rattle.std.specs.Fmt.{decimal}
use Rattle.std.specs.Option.{option_map_or, option_or}
use Rattle.std.specs.Result.{result_ok}
use Rattle.std.specs.Str.{bytes_eq}
use Rattle.cell_base.specs.declared.cells.Cell.{Cell}
use Rattle.cell_base.specs.declared.requests.Request.{Request}
use Rattle.cell_base.specs.Fits.{RequestFits}
use Rattle.input_lines.specs.Lines.{whole_lines}
use Rattle.step_text.specs.declared.faults.StepFault.{StepFault}
use Rattle.step_text.specs.Steps.{IsStep, request_words, step_of_words}
use Rattle.step_text.specs.Words.{joined, number_of, words}
use Rattle.serve_command.specs.declared.asks.Ask.{Ask}
use Rattle.serve_command.specs.declared.session_request.SessionRequest.{SessionRequest}
use Rattle.record_text.specs.Reading.{placing_of}
use Rattle.serve_command.specs.declared.asks.Ask.TheVariants.{Step, Wait, Cancel, Count, Last, Why, Job, Next, Room, Left, Nothing, Parts, Jobs}
use Rattle.serve_command.specs.declared.asks.TheConstants.{MAX_ASK_BYTES, MAX_JOB, MAX_SESSION}

-- | Line           | Ask                                               |
-- | `K STEP`       | session K asks for a step                         |
-- | `K place ..`   | it says that it has put a part in, as a step does |
-- | `K wait STEP`  | it asks for a step, and waits where there is no room |
-- | `K cancel`     | it waits no longer                                |
-- | `K grants`     | how many grants session K has                     |
-- | `K last`       | the same, and the last of them                    |
-- | `why STEP`     | what the step would be told                       |
-- | `job J`        | where the part of a job stands                    |
-- | `next`         | the next step of the plan                         |
-- | `room`         | how many grants more the journal takes            |
-- | `left`         | how many parts are left                           |
-- | `parts`        | where all parts stand                             |
-- | `jobs STEP`    | which parts stand in the way of the step          |
-- | any other      | nothing                                           |

-- these words are this one
abbrev pub is_word : List ℕ → List (List ℕ) → Bool
is_word word (first ∷ []) = bytes_eq first word
is_word word _ = false

-- the request that words are: a step, or the place of a part
abbrev pub request_of : Cell → List (List ℕ) → Option Request
request_of cell words = option_or (result_ok (step_of_words cell words)) (placing_of cell words)

-- a session asks for the request that words are
abbrev pub step_asked : Cell → ℕ → List (List ℕ) → Ask
step_asked cell session words = option_map_or (Step session) (request_of cell words) Nothing

-- the same of a step, for which it may wait
abbrev pub step_waited : ℕ → Result Request StepFault → Ask
step_waited session (Ok request) = Wait session request
step_waited session (Err fault) = Nothing

abbrev pub wait_asked : Cell → ℕ → List (List ℕ) → Ask
wait_asked cell session words = step_waited session (step_of_words cell words)

-- a session asks for a request, with the word before it or without
abbrev pub request_asked : Cell → ℕ → List (List ℕ) → Ask
request_asked cell session (first ∷ next ∷ rest) =
    if bytes_eq first (codes "wait") then wait_asked cell session (next ∷ rest) else step_asked cell session (first ∷ next ∷ rest)
request_asked cell session words = step_asked cell session words

-- what a session asks in these words
abbrev pub ask_of_session : Cell → ℕ → List (List ℕ) → Ask
ask_of_session cell session rest =
    if is_word (codes "grants") rest then Count session
    else (if is_word (codes "last") rest then Last session
    else (if is_word (codes "cancel") rest then Cancel session
    else request_asked cell session rest))

-- the same of a number that a word is
abbrev pub ask_of_number : Cell → Option ℕ → List (List ℕ) → Ask
ask_of_number cell (Some session) rest = ask_of_session cell session rest
ask_of_number cell None rest = Nothing

-- the step of which these words ask what it would be told
abbrev pub asked_why : Result Request StepFault → Ask
asked_why (Ok request) = Why request
asked_why (Err fault) = Nothing

abbrev pub why_asked : Cell → List (List ℕ) → Ask
why_asked cell rest = asked_why (step_of_words cell rest)

-- the step of which these words ask what stands in its way
abbrev pub asked_jobs : Result Request StepFault → Ask
asked_jobs (Ok request) = Jobs request
asked_jobs (Err fault) = Nothing

abbrev pub jobs_asked : Cell → List (List ℕ) → Ask
jobs_asked cell rest = asked_jobs (step_of_words cell rest)

-- the job of which a word asks where its part stands
abbrev pub job_asked : List (List ℕ) → Ask
job_asked (word ∷ []) = option_map_or (λ job. Job (record { 0 = job })) (number_of 0 MAX_JOB word) Nothing
job_asked _ = Nothing

-- what is asked in one word
abbrev pub ask_of_one : List ℕ → Ask
ask_of_one word =
    if bytes_eq word (codes "left") then Left
    else (if bytes_eq word (codes "next") then Next
    else (if bytes_eq word (codes "room") then Room
    else (if bytes_eq word (codes "parts") then Parts
    else Nothing)))

-- what is asked in a word and those after it
abbrev pub ask_of_several : Cell → List ℕ → List (List ℕ) → Ask
ask_of_several cell word rest =
    if bytes_eq word (codes "why") then why_asked cell rest
    else (if bytes_eq word (codes "jobs") then jobs_asked cell rest
    else (if bytes_eq word (codes "job") then job_asked rest
    else ask_of_number cell (number_of 1 MAX_SESSION word) rest))

-- what words ask
abbrev pub ask_of_words : Cell → List (List ℕ) → Ask
ask_of_words cell [] = Nothing
ask_of_words cell (word ∷ []) = ask_of_one word
ask_of_words cell (word ∷ rest) = ask_of_several cell word rest

-- what a line asks; a longer one asks nothing
unfoldable pub ask_of : Cell → List ℕ → Ask
ask_of cell line =
    if nat_le (length line) MAX_ASK_BYTES then ask_of_words cell (words line) else Nothing

-- what the whole lines of a text ask, in turn
abbrev pub asks_in : Cell → List ℕ → List Ask
asks_in cell text = map (ask_of cell) (whole_lines text)

-- what is asked of a cell fits it, and a step of which it is asked what it would be told, or what stands in its way, is one
abbrev pub AskFits : Cell → Ask → Type 0
AskFits cell (Step session request) = RequestFits cell request
AskFits cell (Wait session request) = RequestFits cell request
AskFits cell (Why request) = IsStep cell request
AskFits cell (Jobs request) = IsStep cell request
AskFits cell _ = ⊤

-- the ask is answered by one line, and changes nothing
abbrev pub IsQuestion : Ask → Type 0
IsQuestion (Step session request) = ⊥
IsQuestion (Wait session request) = ⊥
IsQuestion (Cancel session) = ⊥
IsQuestion Parts = ⊥
IsQuestion (Jobs request) = ⊥
IsQuestion _ = ⊤

-- ---- the text of a request

-- a session and the words of its request, as one text
abbrev pub asked_text : Cell → ℕ → Request → List ℕ
asked_text cell session request = joined (decimal session ∷ request_words cell request)

-- The text is that of a session's request, and so short that its answer has room on a line.
pub record IsTextOf (cell : Cell) (session : ℕ) (request : Request) (text : List ℕ) : Type 0 where
  pub is : text ≡ asked_text cell session request
  pub short : length text ≤ 76

-- A line that asks for a step is the text of it.
abbrev pub SaysAsk : Cell → List ℕ → Ask → Type 0
SaysAsk cell line (Step session request) = IsTextOf cell session request line
SaysAsk cell line _ = ⊤

-- The request fits the cell, and this is its text.
pub record IsAsked (cell : Cell) (asked : SessionRequest) : Type 0 where
  pub fits : RequestFits cell asked.request
  pub text : IsTextOf cell asked.session asked.request asked.text.now
