-- What a request and a cancel come to, case by case.
use Rattle.std.specs.Prelude.{◌&&◌}
use Rattle.std.proofs.Common.{◌≡◌, ℕ, Bool, true, false, cond, nat_lt, Option, Some, None, List, length, codes, refl}
use Rattle.cell_base.specs.declared.cells.Cell.{Cell}
use Rattle.cell_base.specs.declared.requests.Refusal.{Refusal}
use Rattle.cell_base.specs.declared.requests.Reply.{Reply}
use Rattle.cell_base.specs.declared.requests.Reply.TheVariants.{Granted, Refused}
use Rattle.cell_base.specs.declared.requests.Request.{Request}
use Rattle.cell_base.specs.Histories.{replay}
use Rattle.cell_base.specs.Outcomes.{reply_to}
use Rattle.policy_laws.specs.Decisions.{is_saturation}
use Rattle.wait_queue.specs.declared.waiter.Waiter.{Waiter}
use Rattle.wait_queue.specs.Waiting.{is_of_session, waiter_of, without_first}
use Rattle.serve_command.specs.Talks.{Cancels, Said, Talk, cancelled, reply_told, request_told, said, said_granted, said_none, said_refused}
use Rattle.serve_command.specs.Talks.{said_waits, waiting_told, where_free}
use Rattle.serve_command.specs.declared.replies.TheConstants.{MAX_WAITERS}

module _ (cell : Cell) (talk : Talk) (session : ℕ) (request : Request) (may_wait : Bool) (P : Said → Type 0) where
  -- it is granted or refused, or the session waits from now on, or the request isn't decided
  pub record RequestCases : Type 0 where
    pub granted : reply_to cell (replay cell talk.granted) request ≡ Granted → P (said_granted cell talk session request)
    pub refused : (why : Refusal) → reply_to cell (replay cell talk.granted) request ≡ Refused why
        → (may_wait && is_saturation why) ≡ false → P (said_refused talk session request why)
    pub waits : (why : Refusal) → reply_to cell (replay cell talk.granted) request ≡ Refused why
        → (may_wait && is_saturation why) ≡ true → waiter_of talk.waiters session ≡ None → P (said_waits talk session request why)
    pub turned : (why : List ℕ) → P (said_none talk session request why)

  module _ (cases : RequestCases) where
    waiting_case : (why : Refusal) → reply_to cell (replay cell talk.granted) request ≡ Refused why
        → (may_wait && is_saturation why) ≡ true → waiter_of talk.waiters session ≡ None → (free : Bool)
        → P (cond free (said_waits talk session request why) (said_none talk session request (codes "waiters-full")))
    waiting_case why is may new true = cases.waits why is may new
    waiting_case why is may new false = cases.turned (codes "waiters-full")

    refused_case : (why : Refusal) → reply_to cell (replay cell talk.granted) request ≡ Refused why
        → waiter_of talk.waiters session ≡ None → (waits : Bool) → (may_wait && is_saturation why) ≡ waits
        → P (cond waits (waiting_told talk session request why) (said_refused talk session request why))
    refused_case why is new true may = waiting_case why is may new (nat_lt (length talk.waiters) MAX_WAITERS)
    refused_case why is new false may = cases.refused why is may

    reply_case : waiter_of talk.waiters session ≡ None → (reply : Reply) → reply_to cell (replay cell talk.granted) request ≡ reply
        → P (reply_told cell talk session request may_wait reply)
    reply_case new Granted is = cases.granted is
    reply_case new (Refused why) is = refused_case why is new (may_wait && is_saturation why) refl

    free_case : (waiter : Option Waiter) → waiter_of talk.waiters session ≡ waiter
        → P (where_free talk session request waiter
        (reply_told cell talk session request may_wait (reply_to cell (replay cell talk.granted) request)))
    free_case (Some waiter) is = cases.turned (codes "already-waiting")
    free_case None new = reply_case new (reply_to cell (replay cell talk.granted) request) refl

    pub request_case : P (request_told cell talk session request may_wait)
    request_case = free_case (waiter_of talk.waiters session) refl

module _ (talk : Talk) (session : ℕ) (P : Said → Type 0)
    (some : (waiter : Waiter) → waiter_of talk.waiters session ≡ Some waiter
    → P (said (Cancels session (Some waiter.request)) (without_first (is_of_session session) talk.waiters)))
    (none : P (said (Cancels session None) talk.waiters)) where
  by_waiter : (waiter : Option Waiter) → waiter_of talk.waiters session ≡ waiter → P (cancelled talk session waiter)
  by_waiter (Some waiter) is = some waiter is
  by_waiter None is = none

  -- a wait is cancelled, or there is none
  pub cancel_case : P (cancelled talk session (waiter_of talk.waiters session))
  cancel_case = by_waiter (waiter_of talk.waiters session) refl
