-- The last line of each step: what becomes of it is told once, or it waits.
use Rattle.std.specs.Prelude.{◌==◌, ◌&&◌}
use Rattle.std.proofs.Common.{◌≡◌, ℕ, codes, ◌+◌, ◌≤◌, Bool, true, false, cond, Some, List, [], ◌∷◌, map, refl, ap, arith}
use Rattle.std.proofs.lemmas.Bool.{eqb-true}
use Rattle.cell_base.specs.declared.cells.Cell.{Cell}
use Rattle.cell_base.specs.declared.requests.Refusal.{Refusal}
use Rattle.cell_base.specs.declared.requests.Reply.TheVariants.{Granted, Refused}
use Rattle.cell_base.specs.declared.requests.Part.{Part}
use Rattle.cell_base.specs.declared.requests.Request.{Request}
use Rattle.cell_base.specs.declared.requests.Told.TheVariants.{Answered}
use Rattle.cell_base.specs.declared.shifts.Entry.{Entry}
use Rattle.cell_base.specs.Histories.{replay, was_granted}
use Rattle.wait_queue.specs.declared.waiter.Waiter.{Waiter}
use Rattle.wait_queue.specs.Waiting.{is_of_session, waiter_of, without_first}
use Rattle.serve_command.specs.ExactlyOnce.{is_last_of, is_step_of, steps_of}
use Rattle.serve_command.specs.Laws.{is_told_granted, told_times, waiting_times}
use Rattle.serve_command.specs.Talks.{Cancels, Decides, Ends, Lists, Replies, Said, Talk, Telling, Turns, Waits, entry_of}
use Rattle.serve_command.specs.Talks.{request_told, said, said_granted, said_none, said_refused, said_to, said_waits, scanned, talk_after}
use Rattle.serve_command.specs.Talks.{parts_in_the_way, said_listed}
use Rattle.serve_command.specs.Talks.{talk_after_one, told_in_turn}
use Rattle.serve_command.specs.declared.asks.Ask.{Ask}
use Rattle.serve_command.specs.declared.asks.Ask.TheVariants.{Step, Wait, Cancel, Parts, Jobs}
use Rattle.serve_command.proofs.Listing.{times-listed}
use Rattle.serve_command.proofs.Saying.{cancel_case, request_case}
use Rattle.serve_command.proofs.Times.{found-passes, one-leaves, times, times-append, times-cons, times-push}
use Rattle.serve_command.proofs.Waits.{is_of_entry, of_session, scan-keeps}

last-ends : (session : ℕ) (ends : List Entry)
    → told_times (is_last_of session) (map Ends ends) ≡ times (is_of_entry (of_session session)) ends
last-ends session [] = refl
last-ends session (e ∷ ends) =
    omega (
      arith,
      last-ends session ends,
      times-cons (is_last_of session) (Ends e) (map Ends ends),
      times-cons (is_of_entry (of_session session)) e ends,
    )

module _ (cell : Cell) (session : ℕ) where
  -- So many steps of the session are asked: as many are told for the last time, or wait more.
  abbrev Closes : Talk → ℕ → Said → Type 0
  Closes talk steps said =
      steps + waiting_times (of_session session) talk.waiters
      ≡ told_times (is_last_of session) said.told + waiting_times (of_session session) said.waiters

  -- one step of this session
  abbrev one_of : ℕ → ℕ
  one_of own = cond (own == session) 1 0

  granted-closes : (talk : Talk) (own : ℕ) (request : Request) → Closes talk (one_of own) (said_granted cell talk own request)
  granted-closes talk own request =
      let ends : List Entry = (scanned cell talk own request).told in
      omega (
        arith,
        scan-keeps cell (of_session session) talk own request,
        last-ends session ends,
        times-cons (is_last_of session) (Decides (entry_of own request (Answered Granted))) (map Ends ends),
      )

  refused-closes : (talk : Talk) (own : ℕ) (request : Request) (why : Refusal) → Closes talk (one_of own) (said_refused talk own request why)
  refused-closes talk own request why =
      omega (arith, times-cons (is_last_of session) (Decides (entry_of own request (Answered (Refused why)))) [])

  none-closes : (talk : Talk) (own : ℕ) (request : Request) (why : List ℕ) → Closes talk (one_of own) (said_none talk own request why)
  none-closes talk own request why = omega (arith, times-cons (is_last_of session) (Turns own request why) [])

  waits-closes : (talk : Talk) (own : ℕ) (request : Request) (why : Refusal) → Closes talk (one_of own) (said_waits talk own request why)
  waits-closes talk own request why =
      omega (
        arith,
        times-push (λ (v : Waiter). v.session == session) talk.waiters
            (record { session = own; request = request; refusal = why }),
      )

  request-closes : (talk : Talk) (own : ℕ) (request : Request) (may_wait : Bool)
      → Closes talk (one_of own) (request_told cell talk own request may_wait)
  request-closes talk own request may_wait =
      request_case cell talk own request may_wait (Closes talk (one_of own)) (record {
        granted = λ is. granted-closes talk own request;
        refused = λ why is no. refused-closes talk own request why;
        waits = λ why is may new. waits-closes talk own request why;
        turned = none-closes talk own request;
      })

  cancel-closes : (talk : Talk) (own : ℕ) (w : Waiter) → waiter_of talk.waiters own ≡ Some w
      → Closes talk 0 (said (Cancels own (Some w.request)) (without_first (is_of_session own) talk.waiters))
  cancel-closes talk own w is =
      let same : w.session ≡ own = eqb-true w.session own (found-passes (is_of_session own) talk.waiters w is) in
      let counted : cond (w.session == session) 1 0 ≡ cond (own == session) 1 0 =
      ap {B = ℕ} (λ (k : ℕ). cond (k == session) 1 0) same in
      omega (
        arith,
        counted,
        one-leaves (λ (v : Waiter). v.session == session) (is_of_session own) talk.waiters w is,
        times-cons (is_last_of session) (Cancels own (Some w.request)) [],
      )

  list-closes : (talk : Talk) (ask : Ask) (word : List ℕ) (parts : List Part) → Closes talk 0 (said_listed talk ask word parts)
  list-closes talk ask word parts = omega (arith, times-listed (is_last_of session) (λ w part. refl) word parts)

  ask-closes : (talk : Talk) (ask : Ask) → Closes talk (cond (is_step_of session ask) 1 0) (said_to cell talk ask)
  ask-closes talk (Step own request) = request-closes talk own request false
  ask-closes talk (Wait own request) = request-closes talk own request true
  ask-closes talk (Cancel own) = cancel_case talk own (Closes talk 0) (cancel-closes talk own) (omega arith)
  ask-closes talk Parts = list-closes talk Parts (codes "part") (replay cell talk.granted)
  ask-closes talk (Jobs request) =
      list-closes talk (Jobs request) (codes "job") (parts_in_the_way cell (replay cell talk.granted) request)
  ask-closes talk _ = omega arith

  -- as many steps as are asked in turn are told for the last time, or wait
  pub turns-close : (talk : Talk) (asked : List Ask)
      → steps_of session asked + waiting_times (of_session session) talk.waiters
      ≡ told_times (is_last_of session) (told_in_turn cell talk asked)
      + waiting_times (of_session session) (talk_after cell talk asked).waiters
  turns-close talk [] = omega arith
  turns-close talk (ask ∷ asked) =
      let next = talk_after_one cell talk ask in
      omega (
        arith,
        ask-closes talk ask,
        turns-close next asked,
        times-append (is_last_of session) (said_to cell talk ask).told (told_in_turn cell next asked),
      )

-- a line that tells of a grant is the last of its step
pub granted-last : (session : ℕ) (told : List Telling)
    → told_times (is_told_granted session) told ≤ told_times (is_last_of session) told
granted-last session [] = omega arith
granted-last session (t ∷ told) =
    omega (
      arith,
      granted-last session told,
      one t,
      times-cons (is_told_granted session) t told,
      times-cons (is_last_of session) t told,
    )
  where
    both : (granted own : Bool) → cond (granted && own) 1 0 ≤ cond own 1 0
    both true own = omega arith
    both false true = omega arith
    both false false = omega arith

    some : (b : Bool) → 0 ≤ cond b 1 0
    some b = omega arith

    one : (t : Telling) → cond (is_told_granted session t) 1 0 ≤ cond (is_last_of session t) 1 0
    one (Decides e) = both (was_granted e.told) (e.session == session)
    one (Ends e) = both (was_granted e.told) (e.session == session)
    one (Waits own request why) = omega arith
    one (Cancels own request) = some (is_last_of session (Cancels own request))
    one (Turns own request why) = some (own == session)
    one (Lists word part) = omega arith
    one (Replies ask) = omega arith
