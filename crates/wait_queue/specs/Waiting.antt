-- Who waits, and what a scan makes of it.
use Rattle.std.specs.Prelude.{ℕ, zero, suc, ◌==◌, Bool, not, if◌then◌else◌, Option, List, [], ◌∷◌, ◌++◌, length}
use Rattle.std.specs.List.{find}
use Rattle.std.specs.Option.{option_map_or}
use Rattle.cell_base.specs.declared.cells.Cell.{Cell}
use Rattle.cell_base.specs.declared.requests.Part.{Part}
use Rattle.cell_base.specs.declared.requests.Refusal.{Refusal}
use Rattle.cell_base.specs.declared.requests.Reply.{Reply}
use Rattle.cell_base.specs.declared.requests.Reply.TheVariants.{Granted, Refused}
use Rattle.cell_base.specs.declared.requests.Told.TheVariants.{Answered}
use Rattle.cell_base.specs.declared.shifts.Entry.{Entry}
use Rattle.cell_base.specs.Outcomes.{reply_to, state_after}
use Rattle.policy_laws.specs.Decisions.{is_saturated}
use Rattle.wait_queue.specs.declared.waiter.Waiter.{Waiter}

-- the parts, those that wait in the order in which they began to, and the ends of the waits so far
pub record Waiting : Type 0 where
  pub parts : List Part
  pub waiters : List Waiter
  pub told : List Entry

abbrev pub waiting : List Part → List Waiter → List Entry → Waiting
waiting parts waiters told = record { parts = parts; waiters = waiters; told = told }

-- the waiter's request is no longer saturated
abbrev pub is_ready : Cell → List Part → Waiter → Bool
is_ready cell parts waiter = not (is_saturated (reply_to cell parts waiter.request))

-- the waiters without the first one that passes the test
abbrev pub without_first : (Waiter → Bool) → List Waiter → List Waiter
without_first test [] = []
without_first test (waiter ∷ waiters) = if test waiter then waiters else waiter ∷ without_first test waiters

-- how the wait of a waiter ends in this state
abbrev pub end_of : Cell → List Part → Waiter → Entry
end_of cell parts waiter =
    record { session = waiter.session; request = waiter.request; told = Answered (reply_to cell parts waiter.request) }

-- the first waiter that is ready is decided, and leaves
abbrev pub after_wait : Cell → Waiting → Waiter → Waiting
after_wait cell on waiter = record {
  parts = state_after cell on.parts waiter.request;
  waiters = without_first (is_ready cell on.parts) on.waiters;
  told = on.told ++ end_of cell on.parts waiter ∷ [];
}

-- and so on, in at most so many steps
abbrev pub served_within : ℕ → Cell → Waiting → Waiting
served_within zero cell on = on
served_within (suc n) cell on =
    option_map_or (λ waiter. served_within n cell (after_wait cell on waiter)) (find (is_ready cell on.parts) on.waiters) on

-- the whole scan: each step takes a waiter out
abbrev pub served : Cell → Waiting → Waiting
served cell on = served_within (length on.waiters) cell on

-- the waiter is of this session
abbrev pub is_of_session : ℕ → Waiter → Bool
is_of_session session waiter = waiter.session == session

-- the waiter of a session
abbrev pub waiter_of : List Waiter → ℕ → Option Waiter
waiter_of waiters session = find (is_of_session session) waiters

-- the refusal of a reply, or the old one
abbrev pub refusal_in : Reply → Refusal → Refusal
refusal_in Granted old = old
refusal_in (Refused why) old = why

-- the waiter keeps the refusal of its request
abbrev pub renewed : Cell → List Part → Waiter → Waiter
renewed cell parts waiter = record waiter { refusal = refusal_in (reply_to cell parts waiter.request) waiter.refusal }
