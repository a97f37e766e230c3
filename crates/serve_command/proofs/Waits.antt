-- Each wait ends once: the lines that tell of it, and those that wait.
use Rattle.std.specs.Prelude.{◌==◌}
use Rattle.std.proofs.Common.{◌≡◌, ℕ, codes, zero, suc, ◌+◌, ◌≤◌, Bool, true, false, cond, inl, inr, Some, None, List, [], ◌∷◌, ◌++◌, length, map, refl, ap, subst, ◌∙◌, arith, find}
use Rattle.std.specs.Option.{option_map_or}
use Rattle.std.proofs.lemmas.Bool.{cases_eq, eqb-true, ne_eqb}
use Rattle.cell_base.specs.declared.cells.Cell.{Cell}
use Rattle.cell_base.specs.declared.requests.Part.{Part}
use Rattle.cell_base.specs.declared.requests.Refusal.{Refusal}
use Rattle.cell_base.specs.declared.requests.Request.{Request}
use Rattle.cell_base.specs.declared.shifts.Entry.{Entry}
use Rattle.cell_base.specs.declared.shifts.Grant.{Grant}
use Rattle.cell_base.specs.Histories.{replay}
use Rattle.wait_queue.specs.declared.waiter.Waiter.{Waiter}
use Rattle.wait_queue.specs.Waiting.{Waiting, after_wait, end_of, is_of_session, is_ready, served_within, waiter_of, waiting, without_first}
use Rattle.serve_command.specs.Laws.{EndsEachWait, StepTest, is_told_cancelled, is_told_end, is_told_waits, told_times, waiting_times}
use Rattle.serve_command.specs.Talks.{Cancels, Ends, Said, Talk, Waits, opened, request_told, said, said_granted}
use Rattle.serve_command.specs.Talks.{parts_in_the_way, said_listed, said_to, said_waits, scanned, session_grant, talk_after, talk_after_one, told_in_turn}
use Rattle.serve_command.specs.declared.asks.Ask.{Ask}
use Rattle.serve_command.specs.declared.asks.Ask.TheVariants.{Step, Wait, Cancel, Parts, Jobs}
use Rattle.serve_command.proofs.Listing.{times-listed}
use Rattle.serve_command.proofs.Saying.{cancel_case, request_case}
use Rattle.serve_command.proofs.Times.{found-passes, one-leaves, times, times-append, times-cons, times-none, times-push}

-- the steps of a session
abbrev pub of_session : ℕ → StepTest
of_session session own request = own == session

-- ---- the lines of a scan

-- the entry is of such a step
abbrev pub is_of_entry : StepTest → Entry → Bool
is_of_entry test e = test e.session e.request

told-ends : (test : StepTest) (ends : List Entry) → told_times (is_told_end test) (map Ends ends) ≡ times (is_of_entry test) ends
told-ends test [] = refl
told-ends test (e ∷ ends) =
    omega (
      arith,
      told-ends test ends,
      times-cons (is_told_end test) (Ends e) (map Ends ends),
      times-cons (is_of_entry test) e ends,
    )

ends-wait : (test : StepTest) (ends : List Entry) → told_times (is_told_waits test) (map Ends ends) ≡ 0
ends-wait test [] = refl
ends-wait test (e ∷ ends) = ends-wait test ends

ends-cancel : (test : StepTest) (ends : List Entry) → told_times (is_told_cancelled test) (map Ends ends) ≡ 0
ends-cancel test [] = refl
ends-cancel test (e ∷ ends) = ends-cancel test ends

module _ (cell : Cell) where
  -- those that wait, and those that were told so far that their wait ended
  abbrev in_scan : StepTest → Waiting → ℕ
  in_scan test on = waiting_times test on.waiters + times (is_of_entry test) on.told

  step-keeps : (test : StepTest) (on : Waiting) (w : Waiter) → find (is_ready cell on.parts) on.waiters ≡ Some w
      → in_scan test on ≡ in_scan test (after_wait cell on w)
  step-keeps test on w found =
      omega (
        arith,
        one-leaves (λ (v : Waiter). test v.session v.request) (is_ready cell on.parts) on.waiters w found,
        times-push (is_of_entry test) on.told (end_of cell on.parts w),
      )

  -- each one that a scan takes out it tells
  within-keeps : (test : StepTest) (n : ℕ) (on : Waiting) → in_scan test on ≡ in_scan test (served_within n cell on)
  within-keeps test zero on = refl
  within-keeps test (suc n) on =
      elim (find (is_ready cell on.parts) on.waiters) as (λ o. find (is_ready cell on.parts) on.waiters ≡ o
      → in_scan test on ≡ in_scan test (option_map_or (λ waiter. served_within n cell (after_wait cell on waiter)) o on)) [
        | None ↦ λ none. refl
        | Some w ↦ λ some. step-keeps test on w some ∙ within-keeps test n (after_wait cell on w)
      ] refl

  -- the scan after a grant
  pub scan-keeps : (test : StepTest) (talk : Talk) (session : ℕ) (request : Request)
      → waiting_times test talk.waiters
      ≡ waiting_times test (scanned cell talk session request).waiters
      + times (is_of_entry test) (scanned cell talk session request).told
  scan-keeps test talk session request =
      omega (
        arith,
        within-keeps test (length talk.waiters)
            (waiting (replay cell (talk.granted ++ session_grant session request ∷ [])) talk.waiters []),
      )

  -- ---- one ask

  -- as many began to wait as have ended, were cancelled, or wait more
  abbrev Balances : StepTest → Talk → Said → Type 0
  Balances test talk said =
      waiting_times test talk.waiters + told_times (is_told_waits test) said.told
      ≡ told_times (is_told_end test) said.told + told_times (is_told_cancelled test) said.told + waiting_times test said.waiters

  granted-balances : (test : StepTest) (talk : Talk) (session : ℕ) (request : Request)
      → Balances test talk (said_granted cell talk session request)
  granted-balances test talk session request =
      let ends : List Entry = (scanned cell talk session request).told in
      omega (
        arith,
        scan-keeps test talk session request,
        told-ends test ends,
        ends-wait test ends,
        ends-cancel test ends,
      )

  waits-balances : (test : StepTest) (talk : Talk) (session : ℕ) (request : Request) (why : Refusal)
      → Balances test talk (said_waits talk session request why)
  waits-balances test talk session request why =
      omega (
        arith,
        times-cons (is_told_waits test) (Waits session request why) [],
        times-push (λ (v : Waiter). test v.session v.request) talk.waiters
            (record { session = session; request = request; refusal = why }),
      )

  request-balances : (test : StepTest) (talk : Talk) (session : ℕ) (request : Request) (may_wait : Bool)
      → Balances test talk (request_told cell talk session request may_wait)
  request-balances test talk session request may_wait =
      request_case cell talk session request may_wait (Balances test talk) (record {
        granted = λ is. granted-balances test talk session request;
        refused = λ why is no. omega arith;
        waits = λ why is may new. waits-balances test talk session request why;
        turned = λ why. omega arith;
      })

  cancel-balances : (test : StepTest) (talk : Talk) (session : ℕ) (w : Waiter) → waiter_of talk.waiters session ≡ Some w
      → Balances test talk (said (Cancels session (Some w.request)) (without_first (is_of_session session) talk.waiters))
  cancel-balances test talk session w is =
      let own : w.session ≡ session = eqb-true w.session session (found-passes (is_of_session session) talk.waiters w is) in
      let same : cond (test w.session w.request) 1 0 ≡ cond (test session w.request) 1 0 =
      ap {B = ℕ} (λ (k : ℕ). cond (test k w.request) 1 0) own in
      omega (
        arith,
        same,
        one-leaves (λ (v : Waiter). test v.session v.request) (is_of_session session) talk.waiters w is,
        times-cons (is_told_cancelled test) (Cancels session (Some w.request)) [],
      )

  list-balances : (test : StepTest) (talk : Talk) (ask : Ask) (word : List ℕ) (parts : List Part)
      → Balances test talk (said_listed talk ask word parts)
  list-balances test talk ask word parts =
      omega (
        arith,
        times-listed (is_told_waits test) (λ w part. refl) word parts,
        times-listed (is_told_end test) (λ w part. refl) word parts,
        times-listed (is_told_cancelled test) (λ w part. refl) word parts,
      )

  ask-balances : (test : StepTest) (talk : Talk) (ask : Ask) → Balances test talk (said_to cell talk ask)
  ask-balances test talk (Step session request) = request-balances test talk session request false
  ask-balances test talk (Wait session request) = request-balances test talk session request true
  ask-balances test talk (Cancel session) =
      cancel_case talk session (Balances test talk) (cancel-balances test talk session) (omega arith)
  ask-balances test talk Parts = list-balances test talk Parts (codes "part") (replay cell talk.granted)
  ask-balances test talk (Jobs request) =
      list-balances test talk (Jobs request) (codes "job") (parts_in_the_way cell (replay cell talk.granted) request)
  ask-balances test talk _ = omega arith

  -- ---- asks in turn

  turns-balance : (test : StepTest) (talk : Talk) (asked : List Ask)
      → waiting_times test talk.waiters + told_times (is_told_waits test) (told_in_turn cell talk asked)
      ≡ told_times (is_told_end test) (told_in_turn cell talk asked)
      + told_times (is_told_cancelled test) (told_in_turn cell talk asked)
      + waiting_times test (talk_after cell talk asked).waiters
  turns-balance test talk [] = omega arith
  turns-balance test talk (ask ∷ asked) =
      let next = talk_after_one cell talk ask in
      let now = (said_to cell talk ask).told in
      let later = told_in_turn cell next asked in
      omega (
        arith,
        ask-balances test talk ask,
        turns-balance test next asked,
        times-append (is_told_waits test) now later,
        times-append (is_told_end test) now later,
        times-append (is_told_cancelled test) now later,
      )

  -- ---- no session waits twice

  abbrev AreOnce : List Waiter → Type 0
  AreOnce waiters = (session : ℕ) → waiting_times (of_session session) waiters ≤ 1

  -- where no answer tells of a new wait, there are no more
  no-more : (talk : Talk) (said : Said) → ((test : StepTest) → told_times (is_told_waits test) said.told ≡ 0)
      → ((test : StepTest) → Balances test talk said) → AreOnce talk.waiters → AreOnce said.waiters
  no-more talk said none balances once session =
      omega (arith, none (of_session session), balances (of_session session), once session)

  granted-once : (talk : Talk) (session : ℕ) (request : Request) → AreOnce talk.waiters
      → AreOnce (said_granted cell talk session request).waiters
  granted-once talk session request =
      no-more talk (said_granted cell talk session request) (λ test. ends-wait test (scanned cell talk session request).told)
      (λ test. granted-balances test talk session request)

  -- a session that waits from now on did not wait before
  waits-once : (talk : Talk) (session : ℕ) (request : Request) (why : Refusal) → waiter_of talk.waiters session ≡ None
      → AreOnce talk.waiters → AreOnce (said_waits talk session request why).waiters
  waits-once talk own request why free once session =
      let waiter : Waiter = record { session = own; request = request; refusal = why } in
      let more : waiting_times (of_session session) (talk.waiters ++ waiter ∷ [])
      ≡ waiting_times (of_session session) talk.waiters + cond (own == session) 1 0 =
      times-push (λ (v : Waiter). v.session == session) talk.waiters waiter in
      elim (cases_eq own session) [
        | inl same ↦
            let nobody : waiting_times (of_session own) talk.waiters ≡ 0 = times-none (is_of_session own) talk.waiters free in
            let none : waiting_times (of_session session) talk.waiters ≡ 0 =
            subst (λ (k : ℕ). waiting_times (of_session k) talk.waiters ≡ 0) same nobody in
            omega (arith, more, none, at_most (own == session))
        | inr apart ↦ omega (arith, more, once session, ap {B = ℕ} (λ (b : Bool). cond b 1 0) (ne_eqb own session apart))
      ]
    where
      at_most : (b : Bool) → cond b 1 0 ≤ 1
      at_most true = omega arith
      at_most false = omega arith

  request-once : (talk : Talk) (session : ℕ) (request : Request) (may_wait : Bool) → AreOnce talk.waiters
      → AreOnce (request_told cell talk session request may_wait).waiters
  request-once talk session request may_wait once =
      request_case cell talk session request may_wait (λ (s : Said). AreOnce s.waiters) (record {
        granted = λ is. granted-once talk session request once;
        refused = λ why is no. once;
        waits = λ why is may new. waits-once talk session request why new once;
        turned = λ why. once;
      })

  ask-once : (talk : Talk) (ask : Ask) → AreOnce talk.waiters → AreOnce (said_to cell talk ask).waiters
  ask-once talk (Step session request) once = request-once talk session request false once
  ask-once talk (Wait session request) once = request-once talk session request true once
  ask-once talk (Cancel session) once =
      cancel_case talk session (λ (s : Said). AreOnce s.waiters)
      (λ w is. no-more talk (said (Cancels session (Some w.request)) (without_first (is_of_session session) talk.waiters)) (λ test. refl)
      (λ test. cancel-balances test talk session w is) once)
      once
  ask-once talk _ once = once

  turns-once : (talk : Talk) (asked : List Ask) → AreOnce talk.waiters → AreOnce (talk_after cell talk asked).waiters
  turns-once talk [] once = once
  turns-once talk (ask ∷ asked) once = turns-once (talk_after_one cell talk ask) asked (ask-once talk ask once)

  pub ends-each-wait : (opening : List Grant) (asked : List Ask) → EndsEachWait cell opening asked
  ends-each-wait opening asked = record {
    once = turns-once (opened opening) asked (λ session. omega arith);
    ended = λ test. omega (arith, turns-balance test (opened opening) asked);
  }
