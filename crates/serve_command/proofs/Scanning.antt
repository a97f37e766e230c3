-- The ends of waits, one after the other, are those of a scan.
use Rattle.std.specs.Prelude.{None, Some}
use Rattle.std.proofs.Common.{◌≡◌, ℕ, ◌+◌, ◌<◌, ◌≤◌, All, cond, Bool, true, false, List, [], ◌∷◌, find}
use Rattle.std.proofs.Common.{◌++◌, length, map, refl, sym, ap, ◌∙◌, subst, arith, append_assoc, append-nil}
use Rattle.std.proofs.lemmas.List.{length-append, map-append}
use Rattle.std.proofs.lemmas.List.Elements.{All-append, All-nil, All-cons}
use Rattle.cell_base.specs.declared.cells.Cell.{Cell}
use Rattle.cell_base.specs.declared.requests.Part.{Part}
use Rattle.cell_base.specs.declared.requests.Refusal.{Refusal}
use Rattle.cell_base.specs.declared.requests.Reply.{Reply}
use Rattle.cell_base.specs.declared.requests.Reply.TheVariants.{Granted, Refused}
use Rattle.cell_base.specs.declared.requests.Told.TheVariants.{Answered}
use Rattle.cell_base.specs.declared.shifts.Entry.{Entry}
use Rattle.cell_base.specs.declared.shifts.Grant.{Grant}
use Rattle.cell_base.specs.Fits.{CellFits, RequestFits}
use Rattle.cell_base.specs.Histories.{grants, is_granted, replay}
use Rattle.cell_base.specs.Outcomes.{reply_to, state_after}
use Rattle.cell_base.specs.Policy.{IsAdmitted}
use Rattle.durable_cell.proofs.Replaying.{after_more}
use Rattle.live_cell.specs.LiveState.{LiveState, asked, grants_of_one}
use Rattle.wait_queue.specs.declared.waiter.Waiter.{Waiter}
use Rattle.wait_queue.specs.Queues.{KeepsWatching, QueueState}
use Rattle.wait_queue.specs.Waiting.{Waiting, after_wait, end_of, is_ready, served, waiting, without_first}
use Rattle.wait_queue.specs.Watching.{AreFit, AreWatching}
use Rattle.wait_queue.proofs.Looks.{without-all}
use Rattle.wait_queue.proofs.Scanning.{length-without, served-none, served-some}
use Rattle.serve_command.specs.Answers.{ended_line}
use Rattle.serve_command.specs.Serving.{HasCounts, KeepsWaiters, StandsAt, Stays}
use Rattle.serve_command.specs.Talks.{Talk, session_grant}
use Rattle.serve_command.specs.Waits.{EndsWait, HaveEnded}
use Rattle.serve_command.specs.declared.command.TheConstants.{MAX_SERVED}
use Rattle.serve_command.specs.declared.server.Server.{Server}
use Rattle.serve_command.proofs.Refusing.{refusal_leaves}
use Rattle.serve_command.proofs.Settled.{grants-append}
use Rattle.serve_command.proofs.Taking.{stays_more, stays_same}

-- the grants of the end of a wait
grants-end : (cell : Cell) (parts : List Part) (waiter : Waiter)
    → grants 0 (end_of cell parts waiter ∷ []) ≡ grants_of_one cell parts waiter.session waiter.request
grants-end cell parts waiter = by (reply_to cell parts waiter.request)
  where
    by : (reply : Reply) → grants 0 ((record { session = waiter.session; request = waiter.request; told = Answered reply }) ∷ [])
        ≡ cond (is_granted reply) (session_grant waiter.session waiter.request ∷ []) []
    by Granted = refl
    by (Refused why) = refl

one-grant : (granted : Bool) (grant : Grant) → length (cond granted (grant ∷ []) []) ≤ 1
one-grant true grant = omega arith
one-grant false grant = omega arith

-- ---- one end

module _ {D : Type 0} (old new : Server D) (waiter : Waiter) (reply : Reply) (line : List ℕ) (some : 0 < old.live.spare)
    (reply_is : reply ≡ reply_to old.live.cell old.live.parts waiter.request)
    (live_is : new.live ≡ asked old.live waiter.session waiter.request) (queue_is : new.queue.waiters ≡ old.queue.waiters)
    (line_is : line ≡ ended_line old.live.cell (record { session = waiter.session; request = waiter.request; told = Answered reply }))
    (replies_are : new.replies ≡ old.replies ++ line ∷ []) (asked_is : new.asked ≡ old.asked) (first_is : new.first ≡ old.first)
    (fits : RequestFits old.live.cell waiter.request) where
  abbrev cell : Cell
  cell = old.live.cell

  abbrev grant : Grant
  grant = session_grant waiter.session waiter.request

  abbrev end : Entry
  end = end_of cell old.live.parts waiter

  abbrev added : List Grant
  added = grants_of_one cell old.live.parts waiter.session waiter.request

  stays : Stays old new
  stays = record {
    cell = ap (λ (l : LiveState D). l.cell) live_is;
    disk = ap (λ (l : LiveState D). l.disk) live_is;
    len = ap (λ (l : LiveState D). l.len) live_is;
    room = ap (λ (l : LiveState D). l.room) live_is;
    runs = ap (λ (l : LiveState D). l.is_halted) live_is;
    spare = omega (
      arith,
      some,
      one-grant (is_granted (reply_to cell old.live.parts waiter.request)) grant,
      ap (λ (l : LiveState D). l.spare) live_is,
      ap (λ (l : LiveState D). length l.pending) live_is,
      length-append old.live.pending added,
    );
  }

  -- it stands after the grants and that of the end, if it has one
  abbrev Stands : List Grant → Type 0
  Stands more = (talk : Talk) → StandsAt talk old → HasCounts (talk.granted ++ more) new.counts
      × ((new.live.parts ≡ replay new.live.cell (talk.granted ++ more))
      × (All (λ (one : Grant). RequestFits new.live.cell one.request) (talk.granted ++ more)))

  stands_after : Stands added → (talk : Talk) → StandsAt talk old
      → StandsAt (record { granted = talk.granted ++ grants 0 (end ∷ []); waiters = talk.waiters }) new
  stands_after so talk at =
      let here = so talk at in
      subst (λ (gs : List Grant). StandsAt (record { granted = talk.granted ++ gs; waiters = talk.waiters }) new)
      (sym (grants-end cell old.live.parts waiter))
      (record {
        fit = here.1.1;
        parts = here.1.0;
        counts = here.0;
        number = omega (
          arith,
          at.number,
          stays.len,
          ap (λ (l : LiveState D). length l.pending) live_is,
          length-append old.live.pending added,
          length-append talk.granted added,
        );
        waiters = queue_is ∙ at.waiters;
      })

  ends_so : Stands added → EndsWait old waiter new
  ends_so so = record {
    queue = queue_is;
    parts = ap (λ (l : LiveState D). l.parts) live_is;
    replies = replies_are ∙ ap (λ (l : List ℕ). old.replies ++ l ∷ [])
        (line_is ∙ ap (λ (r : Reply). ended_line cell (record { session = waiter.session; request = waiter.request; told = Answered r }))
        reply_is);
    pending = ap (λ (l : LiveState D). l.pending) live_is
        ∙ ap (λ (gs : List Grant). old.live.pending ++ gs) (sym (grants-end cell old.live.parts waiter));
    at = stands_after so;
    stays = stays;
    asked = asked_is;
    first = first_is;
  }

  -- it is granted
  pub ends_granted : reply ≡ Granted → old.live.len + length old.live.pending < MAX_SERVED
      → ((grants : List Grant) → length grants < 4294967295 → HasCounts grants old.counts → HasCounts (grants ++ grant ∷ []) new.counts)
      → EndsWait old waiter new
  ends_granted granted had_room counts =
      let here : is_granted (reply_to cell old.live.parts waiter.request) ≡ true = ap is_granted (sym reply_is ∙ granted) in
      let added_is : added ≡ grant ∷ [] = ap (λ (b : Bool). cond b (grant ∷ []) []) here in
      ends_so (subst Stands (sym added_is)
      (λ talk at. let Fits : Grant → Type 0 = λ (one : Grant). RequestFits cell one.request in (
        counts talk.granted (omega (arith, at.number, had_room)) at.counts,
        (
          ap (λ (l : LiveState D). l.parts) live_is ∙ ap (λ (ps : List Part). state_after cell ps waiter.request) at.parts
              ∙ sym (after_more cell [] talk.granted grant)
              ∙ ap (λ (c : Cell). replay c (talk.granted ++ grant ∷ [])) (sym stays.cell),
          subst (λ (c : Cell). All (λ (one : Grant). RequestFits c one.request) (talk.granted ++ grant ∷ [])) (sym stays.cell)
              (All-append Fits talk.granted (grant ∷ []) at.fit (All-cons Fits grant [] fits (All-nil Fits))),
        ),
      )))

  -- or dropped
  pub ends_dropped : (why : Refusal) → reply ≡ Refused why → new.counts ≡ old.counts
      → EndsWait old waiter new
  ends_dropped why refused counts_are =
      let not_here : is_granted (reply_to cell old.live.parts waiter.request) ≡ false = ap is_granted (sym reply_is ∙ refused) in
      let added_is : added ≡ [] = ap (λ (b : Bool). cond b (grant ∷ []) []) not_here in
      ends_so (subst Stands (sym added_is)
      (λ talk at. subst (λ (gs : List Grant). HasCounts gs new.counts
      × ((new.live.parts ≡ replay new.live.cell gs) × (All (λ (one : Grant). RequestFits new.live.cell one.request) gs)))
      (sym (append-nil talk.granted)) (
        subst (HasCounts talk.granted) (sym counts_are) at.counts,
        (
          ap (λ (l : LiveState D). l.parts) live_is
              ∙ refusal_leaves cell old.live.parts waiter.request why (sym reply_is ∙ refused) ∙ at.parts
              ∙ ap (λ (c : Cell). replay c talk.granted) (sym stays.cell),
          subst (λ (c : Cell). All (λ (one : Grant). RequestFits c one.request) talk.granted) (sym stays.cell) at.fit,
        ),
      )))

  -- ---- the queue

  pub granted_waiters : reply ≡ Granted → CellFits cell → IsAdmitted cell old.live.parts → KeepsWaiters old
      → KeepsWatching waiter.request old.queue new.queue → new.queue.room ≡ old.queue.room → KeepsWaiters new
  granted_waiters granted cell_fits admitted kept watching room = record {
    fit = subst (λ (c : Cell). AreFit c new.queue.waiters) (sym stays.cell) (subst (AreFit cell) (sym queue_is) kept.fit);
    watching = subst (λ (l : LiveState D). AreWatching l.cell l.parts new.queue.waiters new.queue.watches) (sym live_is)
        (watching cell old.live.parts cell_fits admitted fits (sym reply_is ∙ granted) kept.watching);
    few = omega (arith, kept.few, ap (λ (ws : List Waiter). length ws) queue_is);
    room = room ∙ kept.room;
  }

  pub dropped_waiters : (why : Refusal) → reply ≡ Refused why → KeepsWaiters old
      → new.queue ≡ old.queue → KeepsWaiters new
  dropped_waiters why refused kept same =
      let parts_are : new.live.parts ≡ old.live.parts = ap (λ (l : LiveState D). l.parts) live_is
      ∙ refusal_leaves cell old.live.parts waiter.request why (sym reply_is ∙ refused) in
      record {
        fit = subst (λ (c : Cell). AreFit c new.queue.waiters) (sym stays.cell) (subst (AreFit cell) (sym queue_is) kept.fit);
        watching = subst (λ (k : (Cell × List Part) × QueueState). AreWatching k.0.0 k.0.1 k.1.waiters k.1.watches)
            (λ i. ((sym stays.cell i, sym parts_are i), sym same i)) kept.watching;
        few = omega (arith, kept.few, ap (λ (ws : List Waiter). length ws) queue_is);
        room = ap (λ (q : QueueState). q.room) same ∙ kept.room;
      }

-- ---- the queue without a waiter

without-few : (test : Waiter → Bool) (waiters : List Waiter) → length (without_first test waiters) ≤ length waiters
without-few test [] = omega arith
without-few test (waiter ∷ waiters) =
    elim (test waiter) as (λ b. length (cond b waiters (waiter ∷ without_first test waiters)) ≤ length (waiter ∷ waiters)) [
      | true ↦ omega arith
      | false ↦ omega (arith, without-few test waiters)
    ]

-- a queue without the first waiter that passes the test
pub taken_few : {D : Type 0} (server : Server D) (queue : QueueState) (test : Waiter → Bool)
    → queue.waiters ≡ without_first test server.queue.waiters → length queue.waiters ≤ length server.queue.waiters
taken_few server queue test others =
    omega (arith, without-few test server.queue.waiters, ap (λ (ws : List Waiter). length ws) others)

pub taken_kept : {D : Type 0} (server : Server D) (queue : QueueState) (test : Waiter → Bool) → KeepsWaiters server
    → queue.waiters ≡ without_first test server.queue.waiters
    → AreWatching server.live.cell server.live.parts queue.waiters queue.watches → queue.room ≡ server.queue.room
    → KeepsWaiters (record server { queue = queue })
taken_kept server queue test kept others watching room = record {
  fit = subst (AreFit server.live.cell) (sym others)
      (without-all test (λ (waiter : Waiter). RequestFits server.live.cell waiter.request) server.queue.waiters kept.fit);
  watching = watching;
  few = omega (arith, kept.few, taken_few server queue test others);
  room = room ∙ kept.room;
}

-- ---- one after the other

module _ {D : Type 0} where
  pub none_ended : (server : Server D) → HaveEnded server [] server
  none_ended server = record {
    replies = sym (append-nil server.replies);
    pending = sym (append-nil server.live.pending);
    at = λ talk at. record {
      fit = subst (λ (gs : List Grant). All (λ (one : Grant). RequestFits server.live.cell one.request) gs) (sym (append-nil talk.granted))
          at.fit;
      parts = at.parts ∙ ap (replay server.live.cell) (sym (append-nil talk.granted));
      counts = subst (λ (gs : List Grant). HasCounts gs server.counts) (sym (append-nil talk.granted)) at.counts;
      number = omega (arith, at.number, length-append talk.granted []);
      waiters = refl;
    };
    few = omega arith;
    stays = stays_same server;
    asked = refl;
    first = refl;
  }

  -- the same waiters in another queue
  pub queue_ended : (start now : Server D) (told : List Entry) (queue : QueueState) → queue.waiters ≡ now.queue.waiters
      → HaveEnded start told now → HaveEnded start told (record now { queue = queue })
  queue_ended start now told queue same ended = record {
    replies = ended.replies;
    pending = ended.pending;
    at = λ talk at.
        let here = ended.at talk at in
        record { fit = here.fit; parts = here.parts; counts = here.counts; number = here.number; waiters = refl };
    few = omega (arith, ended.few, ap (λ (ws : List Waiter). length ws) same);
    stays = record {
      cell = ended.stays.cell;
      disk = ended.stays.disk;
      len = ended.stays.len;
      room = ended.stays.room;
      runs = ended.stays.runs;
      spare = ended.stays.spare;
    };
    asked = ended.asked;
    first = ended.first;
  }

  module _ (start now new : Server D) (told : List Entry) (ended : HaveEnded start told now) (queue : QueueState) (waiter : Waiter)
      (found : find (is_ready now.live.cell now.live.parts) now.queue.waiters ≡ Some waiter)
      (others : queue.waiters ≡ without_first (is_ready now.live.cell now.live.parts) now.queue.waiters)
      (one : EndsWait (record now { queue = queue }) waiter new) where
    abbrev last : Entry
    last = end_of now.live.cell now.live.parts waiter

    pub fewer : length now.queue.waiters ≡ length new.queue.waiters + 1
    fewer = omega (
      arith,
      length-without (is_ready now.live.cell now.live.parts) now.queue.waiters waiter found,
      ap (λ (ws : List Waiter). length ws) (one.queue ∙ others),
    )

    pub one_ended : HaveEnded start (told ++ last ∷ []) new
    one_ended = record {
      replies = one.replies
          ∙ (λ i. ended.replies i ++ ended_line (ended.stays.cell i) last ∷ [])
          ∙ append_assoc start.replies (map (ended_line start.live.cell) told) (ended_line start.live.cell last ∷ [])
          ∙ ap (λ (ls : List (List ℕ)). start.replies ++ ls) (sym (map-append (ended_line start.live.cell) told (last ∷ [])));
      pending = one.pending
          ∙ ap (λ (gs : List Grant). gs ++ grants 0 (last ∷ [])) ended.pending
          ∙ append_assoc start.live.pending (grants 0 told) (grants 0 (last ∷ []))
          ∙ ap (λ (gs : List Grant). start.live.pending ++ gs) (sym (grants-append told (last ∷ [])));
      at = λ talk at.
          let here = ended.at talk at in
          let still : StandsAt (record { granted = talk.granted ++ grants 0 told; waiters = queue.waiters })
          (record now { queue = queue }) =
          record { fit = here.fit; parts = here.parts; counts = here.counts; number = here.number; waiters = refl } in
          let grants_are : (talk.granted ++ grants 0 told) ++ grants 0 (last ∷ []) ≡ talk.granted ++ grants 0 (told ++ last ∷ []) =
          append_assoc talk.granted (grants 0 told) (grants 0 (last ∷ []))
          ∙ ap (λ (gs : List Grant). talk.granted ++ gs) (sym (grants-append told (last ∷ []))) in
          subst (λ (k : Talk). StandsAt k new) (λ i. record { granted = grants_are i; waiters = sym one.queue i })
          (one.at (record { granted = talk.granted ++ grants 0 told; waiters = queue.waiters }) still);
      few = omega (arith, ended.few, fewer, length-append told (last ∷ []));
      stays = stays_more start now new ended.stays
          (record {
            cell = one.stays.cell;
            disk = one.stays.disk;
            len = one.stays.len;
            room = one.stays.room;
            runs = one.stays.runs;
            spare = one.stays.spare;
          });
      asked = one.asked ∙ ended.asked;
      first = one.first ∙ ended.first;
    }

    -- what is left of the scan is the whole scan
    pub scan_goes : served start.live.cell (waiting new.live.parts new.queue.waiters (told ++ last ∷ []))
        ≡ served start.live.cell (waiting now.live.parts now.queue.waiters told)
    scan_goes =
        let on : Waiting = waiting now.live.parts now.queue.waiters told in
        let next : waiting new.live.parts new.queue.waiters (told ++ last ∷ []) ≡ after_wait now.live.cell on waiter =
        λ i. record { parts = one.parts i; waiters = (one.queue ∙ others) i; told = told ++ last ∷ [] } in
        subst (λ (c : Cell). served c (waiting new.live.parts new.queue.waiters (told ++ last ∷ [])) ≡ served c on) ended.stays.cell
        (ap (served now.live.cell) next ∙ sym (served-some now.live.cell on waiter found))

  -- where none is ready the scan is at its end
  pub scan_ends : (start now : Server D) (told : List Entry) → now.live.cell ≡ start.live.cell
      → find (is_ready now.live.cell now.live.parts) now.queue.waiters ≡ None
      → served start.live.cell (waiting now.live.parts now.queue.waiters told) ≡ waiting now.live.parts now.queue.waiters told
  scan_ends start now told same none =
      let on : Waiting = waiting now.live.parts now.queue.waiters told in
      subst (λ (c : Cell). served c on ≡ on) same (served-none now.live.cell on none)
