-- What contracts see of a queue, and what its calls keep.
use Rattle.std.specs.Prelude.{◌≡◌, ℕ, ◌+◌, ◌<◌, Bool, false, Option, List, length}
use Rattle.cell_base.specs.declared.cells.Cell.{Cell}
use Rattle.cell_base.specs.declared.cells.ResId.{ResId}
use Rattle.cell_base.specs.declared.requests.Part.{Part}
use Rattle.cell_base.specs.declared.requests.Request.{Request}
use Rattle.cell_base.specs.declared.requests.Reply.TheVariants.{Granted, Refused}
use Rattle.cell_base.specs.declared.requests.Refusal.TheVariants.{Saturated}
use Rattle.cell_base.specs.Fits.{CellFits, RequestFits}
use Rattle.cell_base.specs.Outcomes.{reply_to, state_after}
use Rattle.cell_base.specs.Policy.{IsAdmitted}
use Rattle.wait_queue.specs.declared.waiter.Waiter.{Waiter}
use Rattle.wait_queue.specs.Counting.{AreCounted, job_key, session_key}
use Rattle.wait_queue.specs.Watching.{AreCovered, AreWatched, AreWatching}

-- who waits, in the order in which they began to; what each watches, or nothing where it is to be looked at; and the room
pub record QueueState : Type 0 where
  pub waiters : List Waiter
  pub watches : List (Option ResId)
  pub room : ℕ

-- what was watched is watched still after a granted request
abbrev pub KeepsWatching : Request → QueueState → QueueState → Type 0
KeepsWatching request old new =
    (cell : Cell) (parts : List Part) → CellFits cell → IsAdmitted cell parts → RequestFits cell request
    → reply_to cell parts request ≡ Granted → AreWatching cell parts old.waiters old.watches
    → AreWatching cell (state_after cell parts request) new.waiters new.watches

-- a waiter that was refused for this resource watches it, and the others watch as before
abbrev pub WatchesAnother : Waiter → ResId → QueueState → QueueState → Type 0
WatchesAnother waiter at old new =
    (cell : Cell) (parts : List Part) (held units : ℕ) → CellFits cell → IsAdmitted cell parts → RequestFits cell waiter.request
    → reply_to cell parts waiter.request ≡ Refused (Saturated at held units) → AreWatching cell parts old.waiters old.watches
    → AreWatching cell parts new.waiters new.watches

-- what the type keeps
pub record IsKept (waiters : List Waiter) (watches : List (Option ResId)) (jobs sessions : List ℕ) (watched : ℕ) (is_stale : Bool)
    (room waiters_spare watches_spare : ℕ) : Type 0 where
  pub pairs : length watches ≡ length waiters
  pub job_places : 0 < length jobs
  pub session_places : 0 < length sessions
  pub jobs_counted : AreCounted job_key jobs waiters
  pub sessions_counted : AreCounted session_key sessions waiters
  pub covered : AreCovered watched watches
  pub fresh : is_stale ≡ false → AreWatched watches
  pub waiters_room : waiters_spare + length waiters ≡ room
  pub watches_room : watches_spare + length watches ≡ room
