-- A conversation in which sessions may wait: what is told of each ask, and what stands after it.
use Rattle.std.specs.Prelude.{codes, ℕ, Bool, true, false, ◌&&◌, nat_lt, if◌then◌else◌, Option, Some, None, List, [], ◌∷◌, ◌++◌, length, map}
use Rattle.cell_base.specs.declared.cells.Cell.{Cell}
use Rattle.cell_base.specs.declared.requests.Part.{Part}
use Rattle.cell_base.specs.declared.requests.Refusal.{Refusal}
use Rattle.cell_base.specs.declared.requests.Refusal.TheVariants.{Saturated}
use Rattle.cell_base.specs.declared.requests.Reply.{Reply}
use Rattle.cell_base.specs.declared.requests.Reply.TheVariants.{Granted, Refused}
use Rattle.cell_base.specs.declared.requests.Request.{Request}
use Rattle.cell_base.specs.declared.requests.Told.{Told}
use Rattle.cell_base.specs.declared.requests.Told.TheVariants.{Answered}
use Rattle.cell_base.specs.declared.shifts.Entry.{Entry}
use Rattle.cell_base.specs.declared.shifts.Grant.{Grant}
use Rattle.cell_base.specs.Histories.{grants, replay}
use Rattle.cell_base.specs.Neighborhoods.{counted}
use Rattle.cell_base.specs.Outcomes.{reply_to}
use Rattle.policy_laws.specs.Decisions.{is_saturation}
use Rattle.wait_queue.specs.declared.waiter.Waiter.{Waiter}
use Rattle.wait_queue.specs.Waiting.{Waiting, is_of_session, served, waiter_of, waiting, without_first}
use Rattle.wait_queue.specs.Watching.{HoldsAll}
use Rattle.serve_command.specs.declared.asks.Ask.{Ask}
use Rattle.serve_command.specs.declared.asks.Ask.TheVariants.{Step, Wait, Cancel, Parts, Jobs}
use Rattle.serve_command.specs.declared.replies.TheConstants.{MAX_WAITERS}

-- the grants so far, and who waits, in the order in which they began to
pub record Talk : Type 0 where
  pub granted : List Grant
  pub waiters : List Waiter

-- nobody waits yet
abbrev pub opened : List Grant → Talk
opened granted = record { granted = granted; waiters = [] }

-- | Line                                                            | What it tells                                              |
-- | `K STEP granted`, `K STEP refused WHY`                          | Decides: the step is decided                               |
-- | `K STEP waits WHY`                                              | Waits: it is refused for want of room, and waits from now  |
-- | `K STEP served`, `K STEP dropped WHY`                           | Ends: a wait ends                                          |
-- | `K cancel STEP`, `K cancel none`                                | Cancels: the step of the session waits no longer           |
-- | `K STEP refused already-waiting`, `K STEP refused waiters-full` | Turns: the step is turned away without a decision          |
-- | `part 7 A 1 M1 waiting`, `job 7 A 1 M1 done`                    | Lists: a part of the list whose head stands before it      |
-- | any other                                                       | Replies: the answer to a question, which changes nothing   |
pub data Telling : Type 0 where
  Decides : (entry : Entry) → Telling
  Waits : (session : ℕ) (request : Request) (why : Refusal) → Telling
  Ends : (entry : Entry) → Telling
  Cancels : (session : ℕ) (request : Option Request) → Telling
  Turns : (session : ℕ) (request : Request) (why : List ℕ) → Telling
  Lists : (word : List ℕ) (part : Part) → Telling
  Replies : (ask : Ask) → Telling

-- what an ask comes to: what is told, a line each, and who waits then
pub record Said : Type 0 where
  pub told : List Telling
  pub waiters : List Waiter

-- ---- the history

-- what a session asked for and was told
abbrev pub entry_of : ℕ → Request → Told → Entry
entry_of session request told = record { session = session; request = request; told = told }

-- the entries that are told: one of each decision
abbrev pub entries_of_telling : Telling → List Entry
entries_of_telling (Decides entry) = entry ∷ []
entries_of_telling (Waits session request why) = entry_of session request (Answered (Refused why)) ∷ []
entries_of_telling (Ends entry) = entry ∷ []
entries_of_telling _ = []

-- those of lines in turn
abbrev pub entries_in : List Telling → List Entry
entries_in [] = []
entries_in (telling ∷ tellings) = entries_of_telling telling ++ entries_in tellings

-- ---- what an ask comes to

-- this is told, and these wait
abbrev pub said : Telling → List Waiter → Said
said telling waiters = record { told = telling ∷ []; waiters = waiters }

-- the grant of a session's request, which is of shift 0
abbrev pub session_grant : ℕ → Request → Grant
session_grant session request = record { shift = 0; session = session; request = request }

-- the scan after a grant: the waiters that are ready are decided, the first one first, until none is
abbrev pub scanned : Cell → Talk → ℕ → Request → Waiting
scanned cell talk session request =
    served cell (waiting (replay cell (talk.granted ++ session_grant session request ∷ [])) talk.waiters [])

-- a request is granted, and the scan after it serves and drops
abbrev pub said_granted : Cell → Talk → ℕ → Request → Said
said_granted cell talk session request =
    let after = scanned cell talk session request in
    record { told = Decides (entry_of session request (Answered Granted)) ∷ map Ends after.told; waiters = after.waiters }

-- a request is refused
abbrev pub said_refused : Talk → ℕ → Request → Refusal → Said
said_refused talk session request why = said (Decides (entry_of session request (Answered (Refused why)))) talk.waiters

-- a request waits from now on
abbrev pub said_waits : Talk → ℕ → Request → Refusal → Said
said_waits talk session request why =
    said (Waits session request why) (talk.waiters ++ record { session = session; request = request; refusal = why } ∷ [])

-- a request is not decided, for a reason that is none of the policy's
abbrev pub said_none : Talk → ℕ → Request → List ℕ → Said
said_none talk session request why = said (Turns session request why) talk.waiters

-- a request that is refused for want of room waits, if a place is free
abbrev pub waiting_told : Talk → ℕ → Request → Refusal → Said
waiting_told talk session request why =
    if nat_lt (length talk.waiters) MAX_WAITERS then said_waits talk session request why
    else said_none talk session request (codes "waiters-full")

-- a request by its reply, which may wait or not
abbrev pub reply_told : Cell → Talk → ℕ → Request → Bool → Reply → Said
reply_told cell talk session request may_wait Granted = said_granted cell talk session request
reply_told cell talk session request may_wait (Refused why) =
    if may_wait && is_saturation why then waiting_told talk session request why else said_refused talk session request why

-- a session that waits asks for nothing else
abbrev pub where_free : Talk → ℕ → Request → Option Waiter → Said → Said
where_free talk session request (Some waiter) other = said_none talk session request (codes "already-waiting")
where_free talk session request None other = other

-- the step that no longer waits
abbrev pub cancelled : Talk → ℕ → Option Waiter → Said
cancelled talk session (Some waiter) =
    said (Cancels session (Some waiter.request)) (without_first (is_of_session session) talk.waiters)
cancelled talk session None = said (Cancels session None) talk.waiters

-- what the request of a session comes to
abbrev pub request_told : Cell → Talk → ℕ → Request → Bool → Said
request_told cell talk session request may_wait =
    where_free talk session request (waiter_of talk.waiters session)
    (reply_told cell talk session request may_wait (reply_to cell (replay cell talk.granted) request))

-- ---- lists

-- the parts that are counted in the neighborhood for which a step is refused
abbrev pub in_the_way : Cell → List Part → Reply → List Part
in_the_way cell parts (Refused (Saturated at held units)) = counted cell parts at.0
in_the_way cell parts _ = []

-- the same of a step in the present state
abbrev pub parts_in_the_way : Cell → List Part → Request → List Part
parts_in_the_way cell parts request = in_the_way cell parts (reply_to cell parts request)

-- the head of a list, and a line for each of its parts, which begins with this word
abbrev pub said_listed : Talk → Ask → List ℕ → List Part → Said
said_listed talk ask word parts = record { told = Replies ask ∷ map (Lists word) parts; waiters = talk.waiters }

-- ---- asks

-- what an ask comes to
abbrev pub said_to : Cell → Talk → Ask → Said
said_to cell talk (Step session request) = request_told cell talk session request false
said_to cell talk (Wait session request) = request_told cell talk session request true
said_to cell talk (Cancel session) = cancelled talk session (waiter_of talk.waiters session)
said_to cell talk Parts = said_listed talk Parts (codes "part") (replay cell talk.granted)
said_to cell talk (Jobs request) =
    said_listed talk (Jobs request) (codes "job") (parts_in_the_way cell (replay cell talk.granted) request)
said_to cell talk ask = said (Replies ask) talk.waiters

-- a session asks for this, and may wait or not
abbrev pub asked_for : ℕ → Request → Bool → Ask
asked_for session request true = Wait session request
asked_for session request false = Step session request

-- ---- asks in turn

-- the grants that an ask adds: its own, and those of the waits that it ends
abbrev pub added_by : Cell → Talk → Ask → List Grant
added_by cell talk ask = grants 0 (entries_in (said_to cell talk ask).told)

-- the talk after an ask
abbrev pub talk_after_one : Cell → Talk → Ask → Talk
talk_after_one cell talk ask =
    record { granted = talk.granted ++ added_by cell talk ask; waiters = (said_to cell talk ask).waiters }

-- the talk after asks in turn
abbrev pub talk_after : Cell → Talk → List Ask → Talk
talk_after cell talk [] = talk
talk_after cell talk (ask ∷ asks) = talk_after cell (talk_after_one cell talk ask) asks

-- the grants that asks in turn add
abbrev pub since : Cell → Talk → List Ask → List Grant
since cell talk [] = []
since cell talk (ask ∷ asks) = added_by cell talk ask ++ since cell (talk_after_one cell talk ask) asks

-- what is told in turn
abbrev pub told_in_turn : Cell → Talk → List Ask → List Telling
told_in_turn cell talk [] = []
told_in_turn cell talk (ask ∷ asks) = (said_to cell talk ask).told ++ told_in_turn cell (talk_after_one cell talk ask) asks

-- ---- what holds of each talk

-- Of each session that waits the outcome now is a refusal for a full neighborhood: none waits that could be granted, and none that is to be
-- dropped.
abbrev pub IsSettled : Cell → Talk → Type 0
IsSettled cell talk = HoldsAll cell (replay cell talk.granted) talk.waiters
