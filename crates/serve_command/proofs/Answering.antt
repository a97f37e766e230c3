-- What is said of a request, and what that makes of the server.
use Rattle.std.specs.Prelude.{Option, None, Some, codes}
use Rattle.std.specs.Option.{is_some}
use Rattle.std.proofs.Common.{◌≡◌, ℕ, ◌+◌, ◌<◌, ◌≤◌, ◌-◌, All, cond, Bool, true, false, List, [], ◌∷◌}
use Rattle.std.proofs.Common.{◌++◌, length, map, refl, sym, ap, ◌∙◌, subst, arith, append_assoc, append-nil}
use Rattle.std.proofs.lemmas.List.{length-append, length-map}
use Rattle.std.proofs.lemmas.List.Elements.{All-append, All-nil, All-cons, All-head}
use Rattle.cell_base.specs.declared.cells.Cell.{Cell}
use Rattle.cell_base.specs.declared.requests.Part.{Part}
use Rattle.cell_base.specs.declared.requests.Refusal.{Refusal}
use Rattle.cell_base.specs.declared.requests.Reply.{Reply}
use Rattle.cell_base.specs.declared.requests.Reply.TheVariants.{Granted, Refused}
use Rattle.cell_base.specs.declared.requests.Request.{Request}
use Rattle.cell_base.specs.declared.requests.Told.TheVariants.{Answered}
use Rattle.cell_base.specs.declared.shifts.Entry.{Entry}
use Rattle.cell_base.specs.declared.shifts.Grant.{Grant}
use Rattle.cell_base.specs.Fits.{CellFits, RequestFits}
use Rattle.cell_base.specs.Histories.{grants, granted_entries, is_granted, replay, was_granted}
use Rattle.cell_base.specs.Outcomes.{reply_to, state_after}
use Rattle.cell_base.specs.Policy.{IsAdmitted}
use Rattle.record_printer.proofs.Fitting.{entries_fit}
use Rattle.live_cell.specs.LiveState.{LiveState, asked}
use Rattle.record_text.specs.Fitting.{EntryFits}
use Rattle.record_text.specs.Lines.{line_of}
use Rattle.wait_queue.specs.declared.waiter.Waiter.{Waiter}
use Rattle.wait_queue.specs.Queues.{QueueState}
use Rattle.wait_queue.specs.Waiting.{Waiting, served, waiter_of, waiting}
use Rattle.wait_queue.specs.Watching.{AreFit, AreWatching}
use Rattle.serve_command.specs.Answers.{ended_line, halted_line, line_number, step_words, telling_line}
use Rattle.serve_command.specs.Serving.{IsAskAnswered, IsJournalFull, IsSaid, KeepsWaiters, StandsAt, Stays, TakesOneLine, first_after}
use Rattle.serve_command.specs.Talks.{Ends, Said, Talk, Telling, asked_for, entries_in, entry_of, reply_told, request_told, said, said_granted}
use Rattle.serve_command.specs.Talks.{said_none, said_to, scanned, session_grant, where_free}
use Rattle.serve_command.specs.Waits.{IsOpen, NotesGrant, Settles}
use Rattle.serve_command.specs.declared.asks.Ask.TheVariants.{Step}
use Rattle.serve_command.specs.declared.command.TheConstants.{MAX_SERVED}
use Rattle.serve_command.specs.FirstGrants.{FirstGrant}
use Rattle.serve_command.specs.declared.server.Server.{Server}
use Rattle.serve_command.proofs.Refusing.{refusal_leaves}
use Rattle.serve_command.proofs.Settled.{granted-adds}
use Rattle.serve_command.proofs.Taking.{stays_more}
use Rattle.durable_cell.proofs.Replaying.{after_more}

-- ---- entries that fit

pub answered_fits : (cell : Cell) → CellFits cell → (parts : List Part) → IsAdmitted cell parts → (session : ℕ) (request : Request)
    → RequestFits cell request → (reply : Reply) → reply ≡ reply_to cell parts request
    → EntryFits cell (entry_of session request (Answered reply))
answered_fits cell fits parts admitted session request fit reply is =
    let entry : Entry = entry_of session request (Answered reply) in
    let Fits : Entry → Type 0 = λ e. RequestFits cell e.request in
    All-head (EntryFits cell) entry []
    (entries_fit cell fits parts (entry ∷ []) admitted (sym is, tt) (All-cons Fits entry [] fit (All-nil Fits)))

-- ---- lists

pub first_same : (first : Option FirstGrant) (at : ℕ) (line : List ℕ) → first_after first at line [] ≡ first
first_same None at line = refl
first_same (Some first) at line = refl

first_of_more : (first : Option FirstGrant) (at : ℕ) (line : List ℕ) (grant : Grant) (more : List Grant)
    → first_after first at line (grant ∷ []) ≡ first_after first at line (grant ∷ more)
first_of_more None at line grant more = refl
first_of_more (Some first) at line grant more = refl

-- a history has no more grants than entries
pub grants-few : (told : List Entry) → length (grants 0 told) ≤ length told
grants-few [] = omega arith
grants-few (entry ∷ told) =
    let Grants : Bool → List Grant = λ (b : Bool).
    map (λ (e : Entry). record { shift = 0; session = e.session; request = e.request })
    (cond b (entry ∷ granted_entries told) (granted_entries told)) in
    elim (was_granted entry.told) as (λ b. length (Grants b) ≤ length (entry ∷ told)) [
      | true ↦ omega (arith, grants-few told)
      | false ↦ omega (arith, grants-few told)
    ]

-- the lines of the ends of waits
pub ended-lines : (cell : Cell) (gs : List Grant) (number : ℕ) (told : List Entry)
    → map (telling_line cell gs number) (map Ends told) ≡ map (ended_line cell) told
ended-lines cell gs number [] = refl
ended-lines cell gs number (entry ∷ told) =
    ap (λ (ls : List (List ℕ)). ended_line cell entry ∷ ls) (ended-lines cell gs number told)

-- ---- a refusal

-- a live cell stays as it was
pub asked_same : {D : Type 0} (live : LiveState D) (session : ℕ) (request : Request) (why : Refusal)
    → reply_to live.cell live.parts request ≡ Refused why → asked live session request ≡ live
asked_same live session request why refused =
    let grant : Grant = session_grant session request in
    let not_here : is_granted (reply_to live.cell live.parts request) ≡ false = ap is_granted refused in
    let nothing_less : live.spare - 0 ≡ live.spare = omega arith in
    (λ i. record live {
      parts = refusal_leaves live.cell live.parts request why refused i;
      pending = live.pending ++ cond (not_here i) (grant ∷ []) [];
      spare = live.spare - length (cond (not_here i) (grant ∷ []) []);
    })
    ∙ (λ i. record live { pending = append-nil live.pending i; spare = nothing_less i })

-- ---- a line that adds no grant

module _ {D : Type 0} (old new : Server D) (queue : QueueState) (line : List ℕ)
    (is : new ≡ record old { queue = queue; replies = old.replies ++ line ∷ []; asked = line_number (old.asked + 1) }) where
  pub kept_said : (cell : Cell) (talk : Talk) (halted : List ℕ) (telling : Telling) (waiters : List Waiter) → StandsAt talk old
      → queue.waiters ≡ waiters → grants 0 (entries_in (telling ∷ [])) ≡ []
      → line ≡ telling_line cell talk.granted (line_number (old.asked + 1)) telling
      → IsSaid cell talk old halted (said telling waiters) new
  kept_said cell talk halted telling waiters at waiters_are none line_is =
      let kept : Server D =
      record old { queue = queue; replies = old.replies ++ line ∷ []; asked = line_number (old.asked + 1) } in
      let still : StandsAt (record { granted = talk.granted; waiters = waiters }) kept =
      record { fit = at.fit; parts = at.parts; counts = at.counts; number = at.number; waiters = waiters_are } in
      record {
        at = subst (λ (gs : List Grant). StandsAt (record { granted = gs; waiters = waiters }) new)
            (sym (ap (λ (gs : List Grant). talk.granted ++ gs) none ∙ append-nil talk.granted))
            (subst (StandsAt (record { granted = talk.granted; waiters = waiters })) (sym is) still);
        replies = ap (λ (s : Server D). s.replies) is ∙ ap (λ (l : List ℕ). old.replies ++ l ∷ []) line_is;
        pending = ap (λ (s : Server D). s.live.pending) is
            ∙ sym (ap (λ (gs : List Grant). old.live.pending ++ gs) none ∙ append-nil old.live.pending);
        first = ap (λ (s : Server D). s.first) is
            ∙ sym (ap (first_after old.first (length old.replies) halted) none ∙ first_same old.first (length old.replies) halted);
      }

  pub kept_goes : TakesOneLine old new
  kept_goes = record {
    stays = record {
      cell = ap (λ (s : Server D). s.live.cell) is;
      disk = ap (λ (s : Server D). s.live.disk) is;
      len = ap (λ (s : Server D). s.live.len) is;
      room = ap (λ (s : Server D). s.live.room) is;
      runs = ap (λ (s : Server D). s.live.is_halted) is;
      spare = ap (λ (s : Server D). s.live.spare + length s.live.pending) is;
    };
    told = omega (
      arith,
      ap (λ (s : Server D). length s.live.pending) is,
      ap (λ (s : Server D). length s.replies) is,
      length-append old.replies (line ∷ []),
    );
    asked = ap (λ (s : Server D). s.asked) is;
  }

-- ---- a grant

module _ {D : Type 0} (old mid : Server D) (session : ℕ) (request : Request) (ready : IsOpen old)
    (fits : RequestFits old.live.cell request) (granted : reply_to old.live.cell old.live.parts request ≡ Granted)
    (had_room : old.live.len + length old.live.pending + length old.queue.waiters < MAX_SERVED)
    (noted : NotesGrant (record old { live = asked old.live session request }) session request mid) where
  abbrev cell : Cell
  cell = old.live.cell

  abbrev grant : Grant
  grant = session_grant session request

  live_more : mid.live ≡ record old.live {
    parts = state_after cell old.live.parts request;
    pending = old.live.pending ++ grant ∷ [];
    spare = old.live.spare - 1;
  }
  live_more = noted.live ∙ ap (λ (b : Bool). record old.live {
    parts = state_after cell old.live.parts request;
    pending = old.live.pending ++ cond b (grant ∷ []) [];
    spare = old.live.spare - length (cond b (grant ∷ []) []);
  }) (ap is_granted granted)

  pending_more : length mid.live.pending ≡ length old.live.pending + 1
  pending_more = omega (
    arith,
    ap (λ (l : LiveState D). length l.pending) live_more,
    length-append old.live.pending (grant ∷ []),
  )

  spare_less : mid.live.spare + 1 ≡ old.live.spare
  spare_less = omega (arith, ready.spare, ap (λ (l : LiveState D). l.spare) live_more)

  replies_more : length mid.replies ≡ length old.replies + 1
  replies_more = omega (
    arith,
    ap (λ (ls : List (List ℕ)). length ls) noted.replies,
    length-append old.replies (line_of (step_words cell session request (Answered Granted)) ∷ []),
  )

  -- then the scan may begin
  pub mid_runs : mid.live.is_halted ≡ false
  mid_runs = ap (λ (l : LiveState D). l.is_halted) live_more ∙ ready.runs

  pub mid_room : mid.live.room ≡ MAX_SERVED
  mid_room = ap (λ (l : LiveState D). l.room) live_more ∙ ready.room

  pub mid_fits : mid.live.len + length mid.live.pending + length mid.queue.waiters ≤ MAX_SERVED
  mid_fits = omega (
    arith,
    had_room,
    ap (λ (l : LiveState D). l.len) live_more,
    pending_more,
    ap (λ (ws : List Waiter). length ws) noted.waiters,
  )

  pub mid_spare : length mid.queue.waiters ≤ mid.live.spare
  mid_spare = omega (arith, ready.spare, spare_less, ap (λ (ws : List Waiter). length ws) noted.waiters)

  pub mid_short : length mid.replies + length mid.queue.waiters ≤ 9216
  mid_short = omega (arith, ready.short, replies_more, ap (λ (ws : List Waiter). length ws) noted.waiters)

  pub mid_waiters : CellFits cell → IsAdmitted cell old.live.parts → KeepsWaiters mid
  mid_waiters cell_fits admitted = record {
    fit = subst (λ (c : Cell). AreFit c mid.queue.waiters) (sym (ap (λ (l : LiveState D). l.cell) live_more))
        (subst (AreFit cell) (sym noted.waiters) ready.waiters.fit);
    watching = subst (λ (l : LiveState D). AreWatching l.cell l.parts mid.queue.waiters mid.queue.watches) (sym live_more)
        (noted.watching cell old.live.parts cell_fits admitted fits granted ready.waiters.watching);
    few = omega (arith, ready.waiters.few, ap (λ (ws : List Waiter). length ws) noted.waiters);
    room = noted.room ∙ ready.waiters.room;
  }

  mid_at : (talk : Talk) → StandsAt talk old
      → StandsAt (record { granted = talk.granted ++ grant ∷ []; waiters = talk.waiters }) mid
  mid_at talk at =
      let Fits : Grant → Type 0 = λ (one : Grant). RequestFits cell one.request in
      record {
        fit = subst (λ (c : Cell). All (λ (one : Grant). RequestFits c one.request) (talk.granted ++ grant ∷ []))
            (sym (ap (λ (l : LiveState D). l.cell) live_more))
            (All-append Fits talk.granted (grant ∷ []) at.fit (All-cons Fits grant [] fits (All-nil Fits)));
        parts = ap (λ (l : LiveState D). l.parts) live_more ∙ ap (λ (ps : List Part). state_after cell ps request) at.parts
            ∙ sym (after_more cell [] talk.granted grant)
            ∙ ap (λ (c : Cell). replay c (talk.granted ++ grant ∷ [])) (sym (ap (λ (l : LiveState D). l.cell) live_more));
        counts = noted.counts talk.granted (omega (arith, at.number, had_room)) at.counts;
        number = omega (
          arith,
          at.number,
          ap (λ (l : LiveState D). l.len) live_more,
          pending_more,
          length-append talk.granted (grant ∷ []),
        );
        waiters = noted.waiters ∙ at.waiters;
      }

  mid_stays : Stays old mid
  mid_stays = record {
    cell = ap (λ (l : LiveState D). l.cell) live_more;
    disk = ap (λ (l : LiveState D). l.disk) live_more;
    len = ap (λ (l : LiveState D). l.len) live_more;
    room = ap (λ (l : LiveState D). l.room) live_more;
    runs = ap (λ (l : LiveState D). l.is_halted) live_more;
    spare = omega (arith, spare_less, pending_more);
  }

  -- and then the waits have ended
  module _ (new : Server D) (settles : Settles mid new) where
    abbrev told : List Entry
    told = settles.0

    pub granted_goes : TakesOneLine old new
    granted_goes =
        let ended = settles.1 in
        let more : length new.live.pending ≡ length old.live.pending + 1 + length (grants 0 told) = omega (
          arith,
          ap (λ (gs : List Grant). length gs) ended.pending,
          length-append mid.live.pending (grants 0 told),
          pending_more,
        ) in
        let lines : length new.replies ≡ length old.replies + 1 + length told = omega (
          arith,
          ap (λ (ls : List (List ℕ)). length ls) ended.replies,
          length-append mid.replies (map (ended_line mid.live.cell) told),
          length-map told (ended_line mid.live.cell),
          replies_more,
        ) in
        record {
          stays = stays_more old mid new mid_stays ended.stays;
          told = omega (arith, more, lines, grants-few told);
          asked = ended.asked ∙ noted.asked;
        }

    pub granted_said : (talk : Talk) → StandsAt talk old
        → IsSaid cell talk old (halted_line cell (Step session request)) (said_granted cell talk session request) new
    granted_said talk at =
        let ended = settles.1 in
        let here = mid_at talk at in
        let now : List Grant = talk.granted ++ grant ∷ [] in
        let cell_is : mid.live.cell ≡ cell = ap (λ (l : LiveState D). l.cell) live_more in
        let parts_are : mid.live.parts ≡ replay cell now = here.parts ∙ ap (λ (c : Cell). replay c now) cell_is in
        let after : Waiting = scanned cell talk session request in
        let scan : waiting new.live.parts new.queue.waiters told ≡ after =
        settles.2 ∙ (λ i. served (cell_is i) (waiting (parts_are i) (here.waiters i) [])) in
        let told_is : told ≡ after.told = ap (λ (w : Waiting). w.told) scan in
        let waiters_are : new.queue.waiters ≡ after.waiters = ap (λ (w : Waiting). w.waiters) scan in
        let adds : grant ∷ grants 0 told ≡ grants 0 (entries_in (said_granted cell talk session request).told) =
        ap (λ (es : List Entry). grant ∷ grants 0 es) told_is ∙ sym (granted-adds cell talk session request) in
        let number : ℕ = line_number (old.asked + 1) in
        let line : List ℕ = line_of (step_words cell session request (Answered Granted)) in
        let stands = ended.at (record { granted = now; waiters = talk.waiters }) here in
        let grants_are : now ++ grants 0 told
        ≡ talk.granted ++ grants 0 (entries_in (said_granted cell talk session request).told) =
        append_assoc talk.granted (grant ∷ []) (grants 0 told) ∙ ap (λ (gs : List Grant). talk.granted ++ gs) adds in
        record {
          at = subst (λ (k : Talk). StandsAt k new) (λ i. record { granted = grants_are i; waiters = waiters_are i }) stands;
          replies = ended.replies
              ∙ (λ i. noted.replies i ++ map (ended_line (cell_is i)) told)
              ∙ append_assoc old.replies (line ∷ []) (map (ended_line cell) told)
              ∙ ap (λ (es : List Entry). old.replies ++ line ∷ map (ended_line cell) es) told_is
              ∙ ap (λ (ls : List (List ℕ)). old.replies ++ line ∷ ls) (sym (ended-lines cell talk.granted number after.told));
          pending = ended.pending
              ∙ ap (λ (gs : List Grant). gs ++ grants 0 told) (ap (λ (l : LiveState D). l.pending) live_more)
              ∙ append_assoc old.live.pending (grant ∷ []) (grants 0 told)
              ∙ ap (λ (gs : List Grant). old.live.pending ++ gs) adds;
          first = ended.first ∙ noted.first
              ∙ first_of_more old.first (length old.replies) (halted_line cell (Step session request)) grant (grants 0 told)
              ∙ ap (first_after old.first (length old.replies) (halted_line cell (Step session request))) adds;
        }

-- ---- a request that may wait or not

-- a session that is found to wait, or not
pub none_there : {X : Type 0} (found : Option X) → is_some found ≡ false → found ≡ None
none_there None is = refl
none_there (Some x) is = absurd (cc is)

pub some_there : {X : Type 0} (found : Option X) → is_some found ≡ true → (x : X) × (found ≡ Some x)
some_there None is = absurd (cc is)
some_there (Some x) is = (x, refl)

module _ (cell : Cell) (talk : Talk) (session : ℕ) (request : Request) where
  asked_is : (may_wait : Bool) → said_to cell talk (asked_for session request may_wait) ≡ request_told cell talk session request may_wait
  asked_is true = refl
  asked_is false = refl

  halted_is : (may_wait : Bool) → halted_line cell (Step session request) ≡ halted_line cell (asked_for session request may_wait)
  halted_is true = refl
  halted_is false = refl

  pub asked_waiting : (may_wait : Bool) (waiter : Waiter) → waiter_of talk.waiters session ≡ Some waiter
      → said_none talk session request (codes "already-waiting") ≡ said_to cell talk (asked_for session request may_wait)
  asked_waiting may_wait waiter waits = sym (
      asked_is may_wait
      ∙ ap (λ (found : Option Waiter). where_free talk session request found
      (reply_told cell talk session request may_wait (reply_to cell (replay cell talk.granted) request))) waits
      )

  pub asked_free : (may_wait : Bool) (reply : Reply) → waiter_of talk.waiters session ≡ None
      → reply_to cell (replay cell talk.granted) request ≡ reply
      → reply_told cell talk session request may_wait reply ≡ said_to cell talk (asked_for session request may_wait)
  asked_free may_wait reply free is = sym (
      asked_is may_wait
      ∙ ap (λ (found : Option Waiter). where_free talk session request found
      (reply_told cell talk session request may_wait (reply_to cell (replay cell talk.granted) request))) free
      ∙ ap (reply_told cell talk session request may_wait) is
      )

  pub asked_so : {D : Type 0} (old new : Server D) (may_wait : Bool) (said : Said)
      → said ≡ said_to cell talk (asked_for session request may_wait)
      → IsSaid cell talk old (halted_line cell (Step session request)) said new
      → IsAskAnswered cell talk old (asked_for session request may_wait) new
  asked_so old new may_wait said is so =
      subst (λ (p : List ℕ × Said). IsSaid cell talk old p.0 p.1 new) (λ i. (halted_is may_wait i, is i)) so

  -- a journal with no room for the grant and those that may follow it
  pub is_full : {D : Type 0} (old : Server D) (may_wait : Bool) → old.live.cell ≡ cell → StandsAt talk old
      → waiter_of old.queue.waiters session ≡ None → reply_to cell old.live.parts request ≡ Granted
      → MAX_SERVED < old.live.len + length old.live.pending + length old.queue.waiters + 1
      → IsJournalFull cell talk (asked_for session request may_wait)
  is_full old may_wait cell_is at free granted full =
      let here : reply_to cell (replay cell talk.granted) request ≡ Granted =
      ap (λ (ps : List Part). reply_to cell ps request) (sym (at.parts ∙ ap (λ (c : Cell). replay c talk.granted) cell_is)) ∙ granted in
      let told = asked_free may_wait Granted (ap (λ (ws : List Waiter). waiter_of ws session) (sym at.waiters) ∙ free) here in
      let added = ap (λ (s : Said). length (grants 0 (entries_in s.told))) told in (
        omega (arith, added, ap (λ (gs : List Grant). length gs) (granted-adds cell talk session request)),
        omega (arith, full, at.number, ap (λ (ws : List Waiter). length ws) at.waiters),
      )
