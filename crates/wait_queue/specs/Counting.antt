-- How many waiters there are whose keys share a place of a table.
use Rattle.std.specs.Prelude.{◌≡◌, ℕ, ◌<◌, ◌%◌, ◌==◌, Bool, false, List, length, slice_index, Option, None, Some}
use Rattle.std.specs.List.{filter}
use Rattle.std.specs.Option.{option_map_or}
use Rattle.cell_base.specs.declared.requests.JobId.{JobId}
use Rattle.wait_queue.specs.declared.waiter.Waiter.{Waiter}
use Rattle.wait_queue.specs.Watching.{job_of}

-- the number of a job, if there is one
abbrev pub number_of : Option JobId → Option ℕ
number_of None = None
number_of (Some job) = Some job.0

-- the key of a waiter: the job of its request, if that has one, ..
abbrev pub job_key : Waiter → Option ℕ
job_key waiter = number_of (job_of waiter.request)

-- .. or its session
abbrev pub session_key : Waiter → Option ℕ
session_key waiter = Some waiter.session

-- the key of the waiter is at this place of a table of so many places
abbrev pub is_at : (Waiter → Option ℕ) → ℕ → ℕ → Waiter → Bool
is_at key places place waiter = option_map_or (λ (k : ℕ). (k % places) == place) (key waiter) false

-- the number of waiters of the keys at this place
abbrev pub waiting_at : (Waiter → Option ℕ) → ℕ → ℕ → List Waiter → ℕ
waiting_at key places place waiters = length (filter (is_at key places place) waiters)

-- each place has the number of its waiters
abbrev pub AreCounted : (Waiter → Option ℕ) → List ℕ → List Waiter → Type 0
AreCounted key counts waiters =
    (place : ℕ) → place < length counts → slice_index counts place ≡ waiting_at key (length counts) place waiters

-- the place of the key, if there is one, counts a waiter
abbrev pub CountsOne : List ℕ → Option ℕ → Type 0
CountsOne counts key = (k : ℕ) → key ≡ Some k → 0 < slice_index counts (k % length counts)

-- the place of the key, if there is one, can count one more
abbrev pub CanCount : List ℕ → Option ℕ → Type 0
CanCount counts key = (k : ℕ) → key ≡ Some k → slice_index counts (k % length counts) < 65535
