-- A board that sessions ask: what every ask and every step of a scan keeps.
use Rattle.std.proofs.Common.{◌≡◌, ◌≢◌, ℕ, zero, suc, ◌+◌, ◌-◌, ◌*◌, ◌<◌, ◌≤◌, Bool, true, false, cond, Some, None}
use Rattle.std.proofs.Common.{List, [], ◌∷◌, ◌++◌, length, map, All, find, get_or, refl, sym, ◌∙◌, ap, subst, arith}
use Rattle.std.specs.Option.{option_map_or}
use Rattle.std.proofs.lemmas.Option.{same_Some}
use Rattle.std.proofs.lemmas.List.{length-append, length-map}
use Rattle.std.proofs.lemmas.List.Elements.{All-append, All-cons, All-map, All-nil, All-weaker}
use Rattle.std.proofs.lemmas.List.Quantifiers.{all_pairs_push}
use Rattle.cell_base.specs.declared.cells.Cell.{Cell}
use Rattle.cell_base.specs.declared.requests.Refusal.{Refusal}
use Rattle.cell_base.specs.declared.requests.Reply.{Reply}
use Rattle.cell_base.specs.declared.requests.Reply.TheVariants.{Granted, Refused}
use Rattle.cell_base.specs.declared.requests.Request.{Request}
use Rattle.cell_base.specs.declared.shifts.Shift.{Shift}
use Rattle.cell_base.specs.Fits.{steps_of}
use Rattle.cell_base.specs.Outcomes.{reply_to, state_after}
use Rattle.cell_base.specs.Rounds.{IsSession}
use Rattle.cell_base.specs.Scripts.{Progress, script_of}
use Rattle.policy_laws.specs.Decisions.{is_saturation}
use Rattle.policy_laws.proofs.Lists.{All-found}
use Rattle.solo_rounds.specs.Underway.{IsWithinScript, script_asks_left}
use Rattle.wait_queue.specs.declared.waiter.Waiter.{Waiter}
use Rattle.wait_board.specs.declared.entries.BoardTold.TheVariants as told
use Rattle.wait_board.specs.declared.entries.BoardEntry.{BoardEntry}
use Rattle.wait_board.specs.Boards.{OnBoard, asks_of, board, after_wait, end_of_wait, entry, is_answer, with_waiter}
use Rattle.wait_board.specs.Boards.{noted, scan_within, all_renewed, told_on}
use Rattle.wait_queue.specs.Waiting.{is_ready, renewed, waiter_of, without_first}
use Rattle.wait_board.specs.BoardState.{AreApart, IsOther}
use Rattle.wait_queue.proofs.Looks.{without-all}
use Rattle.wait_queue.proofs.Scanning.{length-without}
use Rattle.wait_board.proofs.Pairs.{pairs-head, pairs-map, pairs-tail, pairs-without}
use Rattle.wait_board.proofs.Room.{others_wait}
use Rattle.board_rounds.specs.Rounds.{progress_in, reply_in}
use Rattle.board_rounds.specs.Underway.{HasStep, IsGoing, left_in}
use Rattle.board_rounds.proofs.Progressing.{ended_no_ask, ended_reply, has-step-last, left-falls, length-filter-last}
use Rattle.board_rounds.proofs.Progressing.{progress-other, progress-unanswered, within-last}
use Rattle.board_rounds.proofs.Sums.{sum-many, sum-same}

-- the others wait for other sessions than the first one that passes
others_apart : (test : Waiter → Bool) (ws : List Waiter) (w : Waiter) → AreApart ws → find test ws ≡ Some w
    → All (λ (v : Waiter). v.session ≢ w.session) (without_first test ws)
others_apart test [] w apart = λ some. cc
others_apart test (v ∷ ws) w apart =
    elim (test v) as (λ b. cond b (Some v) (find test ws) ≡ Some w
    → All (λ (v : Waiter). v.session ≢ w.session) (cond b ws (v ∷ without_first test ws))) [
      | true ↦ λ some. subst (λ (u : Waiter). All (λ (x : Waiter). x.session ≢ u.session) ws) (same_Some v w some)
          (All-weaker (IsOther v) (λ (x : Waiter). x.session ≢ v.session) (λ x other same. other (sym same)) ws
          (pairs-head test IsOther v ws apart))
      | false ↦ λ some. All-cons (λ (v : Waiter). v.session ≢ w.session) v (without_first test ws)
          (All-found (IsOther v) test ws w (pairs-head test IsOther v ws apart) some)
          (others_apart test ws w (pairs-tail test IsOther v ws apart) some)
    ]

module _ (shift : Shift) where
  -- a session that waits is at a step
  abbrev pub Waits : List BoardEntry → Waiter → Type 0
  Waits history waiter = HasStep shift history waiter.session

  abbrev pub Going : OnBoard → Type 0
  Going on = IsGoing shift on.waiters on.history

  others_wait_on : (history : List BoardEntry) (e : BoardEntry) (ws : List Waiter) → All (λ (v : Waiter). v.session ≢ e.session) ws
      → All (Waits history) ws → All (Waits (history ++ e ∷ [])) ws
  others_wait_on history e ws others waits = λ k d within.
      let v : Waiter = get_or ws k d in
      has-step-last shift history e v.session (progress-other history e v.session (λ same. others k d within (sym same))) (waits k d within)

  all_sessions : (history : List BoardEntry) (e : BoardEntry) → All (λ (e : BoardEntry). IsSession shift e.session) history
      → IsSession shift e.session → All (λ (e : BoardEntry). IsSession shift e.session) (history ++ e ∷ [])
  all_sessions history e all one =
      All-append (λ (e : BoardEntry). IsSession shift e.session) history (e ∷ []) all
      (All-cons (λ (e : BoardEntry). IsSession shift e.session) e [] one (All-nil (λ (e : BoardEntry). IsSession shift e.session)))

  abbrev asked : BoardEntry → Bool
  asked e = is_answer e.told

  -- ---- an ask

  -- it is answered
  answered : (waiters : List Waiter) (history : List BoardEntry) (e : BoardEntry) (reply : Reply) → reply_in e.told ≡ Some reply
      → is_answer e.told ≡ true → HasStep shift history e.session → waiter_of waiters e.session ≡ None
      → IsGoing shift waiters history → IsGoing shift waiters (history ++ e ∷ [])
  answered waiters history e reply is ask has free going =
      let asks = length-filter-last asked history e ∙ ap (λ b. length (asks_of history) + cond b 1 0) ask in
      record {
        apart = going.apart;
        within = within-last shift history e reply is has going.within;
        waiting = others_wait_on history e waiters (others_wait waiters e.session free) going.waiting;
        sessions = all_sessions history e going.sessions has.known;
        few = omega (arith, going.few, asks, left-falls shift history e reply is has);
        room = omega (arith, going.room, asks, length-append history (e ∷ []));
      }

  -- it waits
  waits_from_now : (waiters : List Waiter) (history : List BoardEntry) (session : ℕ) (request : Request) (why : Refusal)
      → HasStep shift history session → waiter_of waiters session ≡ None → IsGoing shift waiters history
      → IsGoing shift (waiters ++ record { session = session; request = request; refusal = why } ∷ [])
      (history ++ entry session request (told.Waits why) ∷ [])
  waits_from_now waiters history session request why has free going =
      let e = entry session request (told.Waits why) in
      let new : Waiter = record { session = session; request = request; refusal = why } in
      let still : (k : ℕ) → HasStep shift history k → HasStep shift (history ++ e ∷ []) k =
      λ k at. has-step-last shift history e k (progress-unanswered history e k refl) at in
      let asks : length (asks_of (history ++ e ∷ [])) ≡ length (asks_of history) + 1 = length-filter-last asked history e in
      let left = sum-same (left_in shift history) (left_in shift (history ++ e ∷ [])) (length shift.scripts) (λ k.
      ap (script_asks_left shift.patience (script_of shift k)) (progress-unanswered history e k refl)) in
      let more = length-append waiters (new ∷ []) in
      record {
        apart = all_pairs_push IsOther waiters new going.apart (λ k d inside. others_wait waiters session free k d inside);
        within = λ k bounds. subst (IsWithinScript (script_of shift k) shift.patience) (sym (progress-unanswered history e k refl))
            (going.within k bounds);
        waiting = All-append (Waits (history ++ e ∷ [])) waiters (new ∷ [])
            (All-weaker (Waits history) (Waits (history ++ e ∷ [])) (λ w at. still w.session at) waiters going.waiting)
            (All-cons (Waits (history ++ e ∷ [])) new [] (still session has) (All-nil (Waits (history ++ e ∷ []))));
        sessions = all_sessions history e going.sessions has.known;
        few = omega (arith, going.few, asks, left, more);
        room = omega (arith, going.room, asks, more, length-append history (e ∷ []));
      }

  -- ---- a scan

  module _ (cell : Cell) where
    decided_going : (on : OnBoard) (w : Waiter) → find (is_ready cell on.parts) on.waiters ≡ Some w → Going on
        → Going (after_wait cell on w)
    decided_going on w some going =
        let test = is_ready cell on.parts in
        let reply = reply_to cell on.parts w.request in
        let e = entry w.session w.request (end_of_wait reply) in
        let history : List BoardEntry = on.history in
        let has = All-found (Waits history) test on.waiters w going.waiting some in
        let one = length-without test on.waiters w some in
        let asks = length-filter-last asked history e ∙ ap (λ b. length (asks_of history) + cond b 1 0) (ended_no_ask reply) in
        record {
          apart = pairs-without test IsOther on.waiters going.apart;
          within = within-last shift history e reply (ended_reply reply) has going.within;
          waiting = others_wait_on history e (without_first test on.waiters) (others_apart test on.waiters w going.apart some)
              (without-all test (Waits history) on.waiters going.waiting);
          sessions = all_sessions history e going.sessions has.known;
          few = omega (arith, going.few, asks, one, left-falls shift history e reply (ended_reply reply) has);
          room = omega (arith, going.room, asks, one, length-append history (e ∷ []));
        }

    settled_going : (on : OnBoard) → Going on → Going (all_renewed cell on)
    settled_going on going =
        let same = length-map on.waiters (renewed cell on.parts) in
        record {
          apart = pairs-map IsOther IsOther (renewed cell on.parts) (λ a b other. other) on.waiters going.apart;
          within = going.within;
          waiting = All-map (Waits on.history) (renewed cell on.parts) on.waiters (λ k d inside. going.waiting k d inside);
          sessions = going.sessions;
          few = omega (arith, going.few, same);
          room = omega (arith, going.room, same);
        }

    scan_going : (n : ℕ) (on : OnBoard) → Going on → Going (scan_within n cell on)
    scan_going zero on going = settled_going on going
    scan_going (suc n) on going =
        elim (find (is_ready cell on.parts) on.waiters) as (λ o. find (is_ready cell on.parts) on.waiters ≡ o
        → Going (option_map_or (λ waiter. scan_within n cell (after_wait cell on waiter)) o (all_renewed cell on))) [
          | None ↦ λ none. settled_going on going
          | Some w ↦ λ some. scan_going n (after_wait cell on w) (decided_going on w some going)
        ] refl

    -- ---- the board

    -- the ask of a session that is at a step and doesn't wait
    pub board_going : (on : OnBoard) (session : ℕ) (request : Request) → HasStep shift on.history session
        → waiter_of on.waiters session ≡ None → Going on → Going (board cell on session request)
    board_going on session request has free going = by_reply (reply_to cell on.parts request)
      where
        by_reply : (r : Reply) → Going (told_on cell on session request r)
        by_reply Granted =
            scan_going (length on.waiters) (record (noted on session request told.Granted) { parts = state_after cell on.parts request })
            (answered on.waiters on.history (entry session request told.Granted) Granted refl refl has free going)
        by_reply (Refused why) =
            elim (is_saturation why) as (λ b.
            Going (cond b (with_waiter on session request why) (noted on session request (told.Refused why)))) [
              | true ↦ waits_from_now on.waiters on.history session request why has free going
              | false ↦ answered on.waiters on.history (entry session request (told.Refused why)) (Refused why) refl refl has free going
            ]

  -- there are no more asks than steps times patience
  pub few_asks : (on : OnBoard) → Going on → length (asks_of on.history) ≤ steps_of shift * shift.patience
  few_asks on going =
      let number : Waiter → ℕ = λ w. w.session in
      let numbers = map number on.waiters in
      let many = sum-many (left_in shift on.history) (length shift.scripts) numbers
      (pairs-map IsOther (λ (a b : ℕ). a ≢ b) number (λ a b other. other) on.waiters going.apart)
      (All-map (λ (x : ℕ). (1 ≤ x) × (x ≤ length shift.scripts) × (1 ≤ left_in shift on.history x)) number on.waiters (λ k d inside.
      let w : Waiter = get_or on.waiters k d in
      let has : Waits on.history w = going.waiting k d inside in (
        has.known.0,
        has.known.1,
        script_asks_left-some (script_of shift w.session) shift.patience (progress_in on.history w.session) has.step has.patience,
      ))) in
      omega (arith, many, length-map on.waiters number, going.few)
    where
      some_left : (n refusals patience : ℕ) → refusals < patience → 1 ≤ (n + 1) * patience - refusals
      some_left n refusals patience left = omega (arith, left)

      script_asks_left-some : (script : List Request) (patience : ℕ) (at : Progress) → at.step < length script → at.refusals < patience
          → 1 ≤ script_asks_left patience script at
      script_asks_left-some script patience at step left =
          let more : length script - at.step ≡ (length script - (at.step + 1)) + 1 = omega (arith, step) in
          subst (λ (n : ℕ). 1 ≤ n * patience - at.refusals) (sym more)
          (some_left (length script - (at.step + 1)) at.refusals patience left)
