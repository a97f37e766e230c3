-- What the calls of the server do with the requests of sessions and with those that wait.
use Rattle.std.specs.Prelude.{codes, ◌≡◌, ℕ, ◌+◌, ◌<◌, false, Option, None, Some, List, [], ◌∷◌, ◌++◌, length, map}
use Rattle.cell_base.specs.declared.cells.ResId.{ResId}
use Rattle.cell_base.specs.declared.requests.Refusal.{Refusal}
use Rattle.cell_base.specs.declared.requests.Refusal.TheVariants.{Saturated}
use Rattle.cell_base.specs.declared.requests.Reply.TheVariants.{Granted, Refused}
use Rattle.cell_base.specs.declared.requests.Request.{Request}
use Rattle.cell_base.specs.declared.requests.Told.TheVariants.{Answered}
use Rattle.cell_base.specs.declared.shifts.Entry.{Entry}
use Rattle.cell_base.specs.declared.shifts.Grant.{Grant}
use Rattle.cell_base.specs.Histories.{grants}
use Rattle.cell_base.specs.Outcomes.{reply_to, state_after}
use Rattle.record_text.specs.Fitting.{EntryFits}
use Rattle.wait_queue.specs.declared.waiter.Waiter.{Waiter}
use Rattle.wait_queue.specs.Waiting.{end_of, served, waiting}
use Rattle.wait_queue.specs.Queues.{KeepsWatching, QueueState}
use Rattle.record_text.specs.Lines.{line_of, why_words}
use Rattle.serve_command.specs.Answers.{asked_words, ended_line, halted_line, line_number, step_words}
use Rattle.serve_command.specs.Serving.{HasCounts, IsSaid, KeepsWaiters, StandsAt, Stays, TakesOneLine, first_after}
use Rattle.serve_command.specs.Talks.{Talk, entry_of, said_granted, session_grant}
use Rattle.serve_command.specs.declared.asks.Ask.TheVariants.{Step}
use Rattle.serve_command.specs.declared.command.TheConstants.{MAX_SERVED}
use Rattle.serve_command.specs.declared.replies.TheConstants.{MAX_REPLIES}
use Rattle.serve_command.specs.declared.server.Server.{Server}

-- The server may answer a line: no commit failed, and there is room for the answer, for the end of each wait, and for a list of all parts.
pub record IsOpen {D : Type 0} (server : Server D) : Type 0 where
  pub runs : server.live.is_halted ≡ false
  pub room : server.live.room ≡ MAX_SERVED
  pub waiters : KeepsWaiters server
  pub spare : length server.queue.waiters < server.live.spare
  pub short : length server.replies + length server.queue.waiters + length server.live.parts < MAX_REPLIES

-- ---- a decision

-- the request was granted and answered, and the waits ended for which there was room then
pub record IsGranted {D : Type 0} (old : Server D) (session : ℕ) (request : Request) (new : Server D) : Type 0 where
  pub reply : reply_to old.live.cell old.live.parts request ≡ Granted
  pub said : (talk : Talk) → StandsAt talk old
      → IsSaid old.live.cell talk old (halted_line old.live.cell (Step session request)) (said_granted old.live.cell talk session request) new
  pub goes_on : TakesOneLine old new
  pub waiters : KeepsWaiters new

-- A request that is pending was counted and answered, and nobody was served yet.
pub record NotesGrant {D : Type 0} (old : Server D) (session : ℕ) (request : Request) (new : Server D) : Type 0 where
  pub live : new.live ≡ old.live
  pub waiters : new.queue.waiters ≡ old.queue.waiters
  pub watching : KeepsWatching request old.queue new.queue
  pub room : new.queue.room ≡ old.queue.room
  pub replies : new.replies ≡ old.replies ++ line_of (step_words old.live.cell session request (Answered Granted)) ∷ []
  pub asked : new.asked ≡ line_number (old.asked + 1)
  pub counts : (grants : List Grant) → length grants < 4294967295 → HasCounts grants old.counts
      → HasCounts (grants ++ session_grant session request ∷ []) new.counts
  pub first : new.first
      ≡ first_after old.first (length old.replies) (halted_line old.live.cell (Step session request)) (session_grant session request ∷ [])

-- it was refused, and nothing changed
pub record IsRefused {D : Type 0} (old : Server D) (session : ℕ) (request : Request) (why : Refusal) (new : Server D) : Type 0 where
  pub reply : reply_to old.live.cell old.live.parts request ≡ Refused why
  pub fits : EntryFits old.live.cell (entry_of session request (Answered (Refused why)))
  pub same : new ≡ old

-- one of the two
abbrev pub IsDecided : {D : Type 0} → Server D → ℕ → Request → Server D → Option Refusal → Type 0
IsDecided old session request new None = IsGranted old session request new
IsDecided old session request new (Some why) = IsRefused old session request why new

-- ---- the beginning of a wait

-- the refusal is for the full neighborhood of this resource
abbrev pub FullAt : Refusal → ResId → Type 0
FullAt why at = (count : ℕ) × (capacity : ℕ) × (why ≡ Saturated at count capacity)

-- A session waits from now on, and is told so.
pub record BeginsWait {D : Type 0} (old : Server D) (session : ℕ) (request : Request) (why : Refusal) (new : Server D) : Type 0 where
  pub queue : QueueState
  pub waiters : queue.waiters ≡ old.queue.waiters ++ record { session = session; request = request; refusal = why } ∷ []
  pub is : new ≡ record old {
    queue = queue;
    replies = old.replies ++ line_of (asked_words old.live.cell session request (codes "waits" ∷ why_words old.live.cell why)) ∷ [];
    asked = line_number (old.asked + 1);
  }

-- ---- the ends of waits

-- A wait has ended: its request was decided, and its session is told so. Its place in the queue was taken away before.
pub record EndsWait {D : Type 0} (old : Server D) (waiter : Waiter) (new : Server D) : Type 0 where
  pub queue : new.queue.waiters ≡ old.queue.waiters
  pub parts : new.live.parts ≡ state_after old.live.cell old.live.parts waiter.request
  pub replies : new.replies ≡ old.replies ++ ended_line old.live.cell (end_of old.live.cell old.live.parts waiter) ∷ []
  pub pending : new.live.pending ≡ old.live.pending ++ grants 0 (end_of old.live.cell old.live.parts waiter ∷ [])
  pub at : (talk : Talk) → StandsAt talk old
      → StandsAt (record {
        granted = talk.granted ++ grants 0 (end_of old.live.cell old.live.parts waiter ∷ []);
        waiters = talk.waiters;
      }) new
  pub stays : Stays old new
  pub asked : new.asked ≡ old.asked
  pub first : new.first ≡ old.first

-- These waits have ended.
pub record HaveEnded {D : Type 0} (old : Server D) (told : List Entry) (new : Server D) : Type 0 where
  pub replies : new.replies ≡ old.replies ++ map (ended_line old.live.cell) told
  pub pending : new.live.pending ≡ old.live.pending ++ grants 0 told
  pub at : (talk : Talk) → StandsAt talk old
      → StandsAt (record { granted = talk.granted ++ grants 0 told; waiters = new.queue.waiters }) new
  pub few : length told + length new.queue.waiters ≡ length old.queue.waiters
  pub stays : Stays old new
  pub asked : new.asked ≡ old.asked
  pub first : new.first ≡ old.first

-- All waits have ended that a scan ends.
abbrev pub Settles : {D : Type 0} → Server D → Server D → Type 0
Settles old new =
    (told : List Entry) × HaveEnded old told new
    × (waiting new.live.parts new.queue.waiters told ≡ served old.live.cell (waiting old.live.parts old.queue.waiters []))
