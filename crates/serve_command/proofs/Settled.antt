-- After each ask nobody waits whose request could be granted, or who is to be dropped.
use Rattle.std.specs.Prelude.{Some, None, ◌&&◌}
use Rattle.std.specs.Option.{option_map_or}
use Rattle.std.proofs.Common.{◌≡◌, ℕ, codes, zero, suc, ◌<◌, Bool, true, false, cond, List, [], ◌∷◌, ◌++◌, length, map, find, refl, sym, ap}
use Rattle.std.proofs.Common.{◌∙◌, subst, arith, append_assoc, append-nil}
use Rattle.std.proofs.lemmas.List.{length-map}
use Rattle.std.proofs.lemmas.List.Elements.{All-nil, All-push}
use Rattle.cell_base.specs.declared.cells.Cell.{Cell}
use Rattle.cell_base.specs.declared.requests.Part.{Part}
use Rattle.cell_base.specs.declared.requests.Refusal.{Refusal}
use Rattle.cell_base.specs.declared.requests.Reply.{Reply}
use Rattle.cell_base.specs.declared.requests.Reply.TheVariants.{Granted, Refused}
use Rattle.cell_base.specs.declared.requests.Request.{Request}
use Rattle.cell_base.specs.declared.requests.Told.TheVariants.{Answered}
use Rattle.cell_base.specs.declared.shifts.Entry.{Entry}
use Rattle.cell_base.specs.declared.shifts.Grant.{Grant}
use Rattle.cell_base.specs.Histories.{granted_entries, grants, replay, was_granted}
use Rattle.cell_base.specs.Outcomes.{reply_to, state_after}
use Rattle.durable_cell.proofs.Replaying.{after_more}
use Rattle.policy_laws.specs.Decisions.{is_saturated, is_saturation}
use Rattle.wait_queue.specs.declared.waiter.Waiter.{Waiter}
use Rattle.wait_queue.specs.Waiting.{Waiting, after_wait, end_of, is_of_session, is_ready, served, served_within, waiter_of, waiting, without_first}
use Rattle.wait_queue.specs.Watching.{HoldsAll}
use Rattle.wait_queue.proofs.Looks.{without-all}
use Rattle.wait_queue.proofs.Settling.{after-scan}
use Rattle.serve_command.specs.Answers.{answer, telling_line}
use Rattle.serve_command.specs.Talks.{Ends, IsSettled, Said, Talk, cancelled, entries_in, entry_of, opened, request_told, said_granted, said_to}
use Rattle.serve_command.specs.Talks.{parts_in_the_way, said_listed, said_waits, scanned, session_grant, talk_after, talk_after_one}
use Rattle.serve_command.specs.declared.asks.Ask.{Ask}
use Rattle.serve_command.specs.declared.asks.Ask.TheVariants.{Step, Wait, Cancel, Parts, Jobs}
use Rattle.serve_command.proofs.Listing.{grants-listed}
use Rattle.serve_command.proofs.Refusing.{refusal_leaves}
use Rattle.serve_command.proofs.Saying.{cancel_case, request_case}

-- ---- the grants of histories

-- the grant of an entry
abbrev grant_of : Entry → Grant
grant_of e = record { shift = 0; session = e.session; request = e.request }

-- the grants of two histories, one after the other
pub grants-append : (told later : List Entry) → grants 0 (told ++ later) ≡ grants 0 told ++ grants 0 later
grants-append [] later = refl
grants-append (t ∷ told) later =
    let rest = granted_entries (told ++ later) in
    elim (was_granted t.told) as (λ b. map grant_of (cond b (t ∷ rest) rest)
    ≡ map grant_of (cond b (t ∷ granted_entries told) (granted_entries told)) ++ grants 0 later) [
      | true ↦ ap (λ l. grant_of t ∷ l) (grants-append told later)
      | false ↦ grants-append told later
    ]

-- the entries of the ends of waits
pub entries-ends : (told : List Entry) → entries_in (map Ends told) ≡ told
entries-ends [] = refl
entries-ends (entry ∷ told) = ap (λ (es : List Entry). entry ∷ es) (entries-ends told)

-- ---- what is told

-- something is told
abbrev IsTold : Said → Type 0
IsTold said = 0 < length said.told

request_told_some : (cell : Cell) (talk : Talk) (session : ℕ) (request : Request) (may_wait : Bool)
    → IsTold (request_told cell talk session request may_wait)
request_told_some cell talk session request may_wait =
    request_case cell talk session request may_wait IsTold (record {
      granted = λ is. omega arith;
      refused = λ why is no. omega arith;
      waits = λ why is may new. omega arith;
      turned = λ why. omega arith;
    })

-- each ask is told something
answer_told : (cell : Cell) (talk : Talk) (ask : Ask) → IsTold (said_to cell talk ask)
answer_told cell talk (Step session request) = request_told_some cell talk session request false
answer_told cell talk (Wait session request) = request_told_some cell talk session request true
answer_told cell talk (Cancel session) = cancel_case talk session IsTold (λ w is. omega arith) (omega arith)
answer_told cell talk _ = omega arith

pub answer_some : (cell : Cell) (talk : Talk) (number : ℕ) (ask : Ask) → 0 < length (answer cell talk number ask)
answer_some cell talk number ask =
    omega (
      arith,
      answer_told cell talk ask,
      length-map (said_to cell talk ask).told (telling_line cell talk.granted number),
    )

-- ---- who waits

module _ (cell : Cell) where
  -- the parts are those after the first grants and those of what was told since
  abbrev pub StandsAfter : List Grant → Waiting → Type 0
  StandsAfter first on = on.parts ≡ replay cell (first ++ grants 0 on.told)

  pub one-more : (before : List Grant) (session : ℕ) (request : Request) (r : Reply) → reply_to cell (replay cell before) request ≡ r
      → state_after cell (replay cell before) request ≡ replay cell (before ++ grants 0 (entry_of session request (Answered r) ∷ []))
  one-more before session request Granted is =
      sym (after_more cell [] before (record { shift = 0; session = session; request = request }))
  one-more before session request (Refused why) is =
      refusal_leaves cell (replay cell before) request why is ∙ ap (replay cell) (sym (append-nil before))

  pub step-stands : (first : List Grant) (on : Waiting) (w : Waiter) → StandsAfter first on → StandsAfter first (after_wait cell on w)
  step-stands first on w stands =
      let before = first ++ grants 0 on.told in
      let e = end_of cell on.parts w in
      ap (λ ps. state_after cell ps w.request) stands
      ∙ one-more before w.session w.request (reply_to cell (replay cell before) w.request) refl
      ∙ ap (λ ps. replay cell (before ++ grants 0 (entry_of w.session w.request (Answered (reply_to cell ps w.request)) ∷ []))) (sym stands)
      ∙ ap (replay cell) (append_assoc first (grants 0 on.told) (grants 0 (e ∷ [])) ∙ ap (λ gs. first ++ gs) (sym (grants-append on.told (e ∷ []))))

  within-stands : (first : List Grant) (n : ℕ) (on : Waiting) → StandsAfter first on → StandsAfter first (served_within n cell on)
  within-stands first zero on stands = stands
  within-stands first (suc n) on stands =
      elim (find (is_ready cell on.parts) on.waiters) as (λ o.
      StandsAfter first (option_map_or (λ waiter. served_within n cell (after_wait cell on waiter)) o on)) [
        | None ↦ stands
        | Some w ↦ within-stands first n (after_wait cell on w) (step-stands first on w stands)
      ]

  -- the state after a scan is that of the grants and of those that it adds
  pub scan-stands : (first : List Grant) (waiters : List Waiter)
      → (served cell (waiting (replay cell first) waiters [])).parts
      ≡ replay cell (first ++ grants 0 (served cell (waiting (replay cell first) waiters [])).told)
  scan-stands first waiters =
      within-stands first (length waiters) (waiting (replay cell first) waiters []) (ap (replay cell) (sym (append-nil first)))

  -- what is told of a grant and of the scan after it adds these grants
  pub granted-adds : (talk : Talk) (session : ℕ) (request : Request)
      → grants 0 (entries_in (said_granted cell talk session request).told)
      ≡ session_grant session request ∷ grants 0 (scanned cell talk session request).told
  granted-adds talk session request =
      ap (λ (es : List Entry). session_grant session request ∷ grants 0 es) (entries-ends (scanned cell talk session request).told)

  -- the talk after this was said
  abbrev SettlesSo : Talk → Said → Type 0
  SettlesSo talk said = HoldsAll cell (replay cell (talk.granted ++ grants 0 (entries_in said.told))) said.waiters

  -- nothing is added to the grants
  still-settled : (talk : Talk) (added : List Grant) (waiters : List Waiter) → added ≡ [] → HoldsAll cell (replay cell talk.granted) waiters
      → HoldsAll cell (replay cell (talk.granted ++ added)) waiters
  still-settled talk added waiters none holds =
      subst (λ (gs : List Grant). HoldsAll cell (replay cell gs) waiters)
      (sym (ap (λ (gs : List Grant). talk.granted ++ gs) none ∙ append-nil talk.granted)) holds

  granted-settled : (talk : Talk) (session : ℕ) (request : Request) → SettlesSo talk (said_granted cell talk session request)
  granted-settled talk session request =
      let grant = session_grant session request in
      let now = talk.granted ++ grant ∷ [] in
      let after = scanned cell talk session request in
      subst (λ (ps : List Part). HoldsAll cell ps after.waiters)
      (scan-stands now talk.waiters
      ∙ ap (replay cell)
      (append_assoc talk.granted (grant ∷ []) (grants 0 after.told)
      ∙ ap (λ (gs : List Grant). talk.granted ++ gs) (sym (granted-adds talk session request))))
      (after-scan cell (waiting (replay cell now) talk.waiters []))

  waits-settled : (talk : Talk) (session : ℕ) (request : Request) (why : Refusal)
      → reply_to cell (replay cell talk.granted) request ≡ Refused why → is_saturation why ≡ true → IsSettled cell talk
      → SettlesSo talk (said_waits talk session request why)
  waits-settled talk session request why is full settled =
      let waiter : Waiter = record { session = session; request = request; refusal = why } in
      still-settled talk [] (talk.waiters ++ waiter ∷ []) refl
      (All-push (λ (w : Waiter). is_saturated (reply_to cell (replay cell talk.granted) w.request) ≡ true) talk.waiters waiter settled
      (ap is_saturated is ∙ full))

  both_true : (one other : Bool) → (one && other) ≡ true → other ≡ true
  both_true true other is = is
  both_true false other is = absurd (cc is)

  request-settled : (talk : Talk) (session : ℕ) (request : Request) (may_wait : Bool) → IsSettled cell talk
      → SettlesSo talk (request_told cell talk session request may_wait)
  request-settled talk session request may_wait settled =
      request_case cell talk session request may_wait (SettlesSo talk) (record {
        granted = λ is. granted-settled talk session request;
        refused = λ why is no. still-settled talk [] talk.waiters refl settled;
        waits = λ why is may new. waits-settled talk session request why is (both_true may_wait (is_saturation why) may) settled;
        turned = λ why. still-settled talk [] talk.waiters refl settled;
      })

  cancel-settled : (talk : Talk) (session : ℕ) → IsSettled cell talk
      → SettlesSo talk (cancelled talk session (waiter_of talk.waiters session))
  cancel-settled talk session settled =
      cancel_case talk session (SettlesSo talk)
      (λ w is. still-settled talk [] (without_first (is_of_session session) talk.waiters) refl
      (without-all (is_of_session session) (λ (v : Waiter). is_saturated (reply_to cell (replay cell talk.granted) v.request) ≡ true)
      talk.waiters settled))
      (still-settled talk [] talk.waiters refl settled)

  list-settled : (talk : Talk) (ask : Ask) (word : List ℕ) (parts : List Part) → IsSettled cell talk
      → SettlesSo talk (said_listed talk ask word parts)
  list-settled talk ask word parts settled =
      still-settled talk (grants 0 (entries_in (said_listed talk ask word parts).told)) talk.waiters (grants-listed word parts) settled

  pub said-settled : (talk : Talk) (ask : Ask) → IsSettled cell talk → IsSettled cell (talk_after_one cell talk ask)
  said-settled talk (Step session request) settled = request-settled talk session request false settled
  said-settled talk (Wait session request) settled = request-settled talk session request true settled
  said-settled talk (Cancel session) settled = cancel-settled talk session settled
  said-settled talk Parts settled = list-settled talk Parts (codes "part") (replay cell talk.granted) settled
  said-settled talk (Jobs request) settled =
      list-settled talk (Jobs request) (codes "job") (parts_in_the_way cell (replay cell talk.granted) request) settled
  said-settled talk _ settled = still-settled talk [] talk.waiters refl settled

  talk-settled : (talk : Talk) (asked : List Ask) → IsSettled cell talk → IsSettled cell (talk_after cell talk asked)
  talk-settled talk [] settled = settled
  talk-settled talk (ask ∷ asked) settled = talk-settled (talk_after_one cell talk ask) asked (said-settled talk ask settled)

  pub settled_always : (opening : List Grant) (asked : List Ask) → IsSettled cell (talk_after cell (opened opening) asked)
  settled_always opening asked =
      talk-settled (opened opening) asked
      (All-nil (λ (w : Waiter). is_saturated (reply_to cell (replay cell opening) w.request) ≡ true))
