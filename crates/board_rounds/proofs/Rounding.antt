-- The turns of a round, and the rounds up to the one in which none asks.
use Rattle.std.proofs.Common.{◌≡◌, ℕ, zero, suc, ◌+◌, ◌-◌, ◌*◌, ◌<◌, ◌≤◌, ◌^◌, ◌&&◌, nat_lt, Bool, true}
use Rattle.std.proofs.Common.{false, cond, Option, Some, None, List, [], ◌∷◌, ◌++◌, length, take, slice_get}
use Rattle.std.proofs.Common.{All, find, replicate, refl, sym, ◌∙◌, ap, subst, ltb-true, arith}
use Rattle.std.specs.Option.{option_map_or, is_none}
use Rattle.std.proofs.lemmas.Bool.{and_parts}
use Rattle.std.proofs.lemmas.List.{append_assoc, append-nil, length-append}
use Rattle.std.proofs.lemmas.List.Elements.{All-nil, All-weaker}
use Rattle.std.proofs.lemmas.Option.{slice_get_within}
use Rattle.std.proofs.Math.Seq.{take-append_seam}
use Rattle.cell_base.specs.declared.cells.Cell.{Cell}
use Rattle.cell_base.specs.declared.limits.TheConstants.{MAX_ASKS, MAX_SESSIONS}
use Rattle.cell_base.specs.declared.requests.Reply.{Reply}
use Rattle.cell_base.specs.declared.requests.Reply.TheVariants.{Granted, Refused}
use Rattle.cell_base.specs.declared.requests.Request.{Request}
use Rattle.cell_base.specs.declared.shifts.Shift.{Shift}
use Rattle.cell_base.specs.Fits.{IsWithin, ShiftFits, steps_of}
use Rattle.cell_base.specs.Outcomes.{reply_to, state_after}
use Rattle.cell_base.specs.Rounds.{IsSession}
use Rattle.cell_base.specs.Scripts.{Progress, begin_at, script_of}
use Rattle.solo_rounds.proofs.Ends.{same_everywhere}
use Rattle.policy_laws.specs.Decisions.{is_saturation}
use Rattle.wait_board.specs.declared.entries.BoardTold.TheVariants as told
use Rattle.wait_board.specs.declared.entries.BoardEntry.{BoardEntry}
use Rattle.wait_queue.specs.declared.waiter.Waiter.{Waiter}
use Rattle.wait_board.specs.Boards.{OnBoard, asks_of, board, after_wait, end_of_wait, entry}
use Rattle.wait_board.specs.Boards.{with_waiter, noted, opened, scan_within, all_renewed, told_on}
use Rattle.wait_queue.specs.Waiting.{is_ready, waiter_of}
use Rattle.wait_board.specs.BoardState.{BoardState}
use Rattle.wait_board.proofs.Asks.{board-asks}
use Rattle.board_rounds.specs.Rounds.{present_step, progress_in, queue_run, round, rounds}
use Rattle.board_rounds.specs.Underway.{HasBecome, HasStep, IsGoing, IsReady, Stands, left_in, sum_to}
use Rattle.board_rounds.proofs.Going.{Going, board_going, few_asks}
use Rattle.board_rounds.proofs.Sums.{sum-elements, sum-same, sum_by-times}

-- ---- an ask adds to the history

module _ (cell : Cell) where
  -- what was told is told
  abbrev Grows : List BoardEntry → List BoardEntry → Type 0
  Grows old new = (more : List BoardEntry) × (new ≡ old ++ more)

  grows_on : (old middle new : List BoardEntry) → Grows old middle → Grows middle new → Grows old new
  grows_on old middle new first then =
      (first.0 ++ then.0, then.1 ∙ ap (λ es. es ++ then.0) first.1 ∙ append_assoc old first.0 then.0)

  scan_grows : (n : ℕ) (on : OnBoard) → Grows on.history (scan_within n cell on).history
  scan_grows zero on = ([], sym (append-nil on.history))
  scan_grows (suc n) on =
      elim (find (is_ready cell on.parts) on.waiters) as (λ o.
      Grows on.history (option_map_or (λ waiter. scan_within n cell (after_wait cell on waiter)) o (all_renewed cell on)).history) [
        | None ↦ ([], sym (append-nil on.history))
        | Some w ↦ grows_on on.history (after_wait cell on w).history (scan_within n cell (after_wait cell on w)).history
            (entry w.session w.request (end_of_wait (reply_to cell on.parts w.request)) ∷ [], refl) (scan_grows n (after_wait cell on w))
      ]

  pub board_grows : (on : OnBoard) (session : ℕ) (request : Request) → Grows on.history (board cell on session request).history
  board_grows on session request = by_reply (reply_to cell on.parts request)
    where
      by_reply : (r : Reply) → Grows on.history (told_on cell on session request r).history
      by_reply Granted =
          let noted_on : OnBoard = record (noted on session request told.Granted) { parts = state_after cell on.parts request } in
          grows_on on.history noted_on.history (scan_within (length on.waiters) cell noted_on).history
          (entry session request told.Granted ∷ [], refl) (scan_grows (length on.waiters) noted_on)
      by_reply (Refused why) =
          elim (is_saturation why) as (λ b.
          Grows on.history (cond b (with_waiter on session request why) (noted on session request (told.Refused why))).history) [
            | true ↦ (entry session request (told.Waits why) ∷ [], refl)
            | false ↦ (entry session request (told.Refused why) ∷ [], refl)
          ]

-- ---- a turn

-- what a session with a present step is
pub record IsAsking (shift : Shift) (on : OnBoard) (number : ℕ) (request : Request) : Type 0 where
  pub has : HasStep shift on.history number
  pub free : waiter_of on.waiters number ≡ None
  pub step : slice_get (script_of shift number) (progress_in on.history number).step ≡ Some request

pub is_asking : (shift : Shift) (on : OnBoard) (session : ℕ) (request : Request) → IsSession shift session
    → present_step shift on session ≡ Some request → IsAsking shift on session request
is_asking shift on session request known is =
    let at = progress_in on.history session in
    let tests = tested (nat_lt at.refusals shift.patience && is_none (waiter_of on.waiters session))
    (slice_get (script_of shift session) at.step) is in
    let both = and_parts (nat_lt at.refusals shift.patience) (is_none (waiter_of on.waiters session)) tests.0 in
    record {
      has = record {
        known = known;
        step = slice_get_within (script_of shift session) at.step request tests.1;
        patience = ltb-true at.refusals shift.patience both.0;
      };
      free = nobody (waiter_of on.waiters session) both.1;
      step = tests.1;
    }
  where
    tested : (b : Bool) (o : Option Request) → cond b o None ≡ Some request → (b ≡ true) × (o ≡ Some request)
    tested true o e = (refl, e)
    tested false o e = absurd (let h : None ≡ Some request = e in cc)

    nobody : (o : Option Waiter) → is_none o ≡ true → o ≡ None
    nobody None e = refl
    nobody (Some w) e = absurd (let h : false ≡ true = e in cc)

module _ (shift : Shift) (old : BoardState) (progress : List Progress) (ready : IsReady shift progress old) (session : ℕ)
    (request : Request) (known : IsSession shift session) (is : present_step shift old.on session ≡ Some request) where
  after : OnBoard
  after = board old.cell old.on session request

  asking : IsAsking shift old.on session request
  asking = is_asking shift old.on session request known is

  going : Going shift (board old.cell old.on session request)
  going = board_going shift old.cell old.on session request asking.has asking.free ready.going

  few : length (asks_of (board old.cell old.on session request).history) ≤ MAX_ASKS
  few = omega (arith, few_asks shift (board old.cell old.on session request) going, ready.fits.asks)

  pub one_ask : length (asks_of (board old.cell old.on session request).history) ≡ length (asks_of old.on.history) + 1
  one_ask =
      let one = board-asks old.cell old.on session request in
      ap length one.1 ∙ length-append (asks_of old.on.history) (entry session request one.0 ∷ [])

  -- there is room for it
  pub has_room : length old.on.waiters < old.spare
  has_room = omega (arith, few, one_ask, ready.going.room, ready.room)

  pub is_short : length (board old.cell old.on session request).history < 2 ^ 32
  is_short = omega (arith, going.room, few)

  pub are_within : All (λ (e : BoardEntry). IsWithin 1 MAX_SESSIONS e.session) (board old.cell old.on session request).history
  are_within =
      All-weaker (λ (e : BoardEntry). IsSession shift e.session) (λ (e : BoardEntry). IsWithin 1 MAX_SESSIONS e.session)
      (λ e is. (is.0, omega (arith, is.1, ready.fits.sessions.1))) (board old.cell old.on session request).history going.sessions

  pub longer : length old.on.history ≤ length (board old.cell old.on session request).history
  longer =
      let grows = board_grows old.cell old.on session request in
      omega (arith, ap length grows.1, length-append old.on.history grows.0)

  pub stands_before : Stands progress (take (length old.on.history) (board old.cell old.on session request).history)
  stands_before =
      let grows = board_grows old.cell old.on session request in
      subst (Stands progress)
      (sym (ap (take (length old.on.history)) grows.1 ∙ take-append_seam old.on.history grows.0)) ready.stands

  -- and the sessions can go on after it
  pub ready_after : (next : List Progress) (new : BoardState)
      → new ≡ record old { on = board old.cell old.on session request; spare = new.spare }
      → new.spare + length new.on.history ≡ old.spare + length old.on.history
      → Stands next new.on.history → IsReady shift next new
  ready_after next new became spare stands =
      let on : new.on ≡ board old.cell old.on session request = ap (λ (b : BoardState). b.on) became in
      record {
        fits = subst (λ cell. ShiftFits cell shift) (sym (ap (λ (b : BoardState). b.cell) became)) ready.fits;
        sessions = ap (λ (b : BoardState). b.sessions) became ∙ ready.sessions;
        going = subst (Going shift) (sym on) going;
        stands = stands;
        room = omega (arith, ready.room, spare);
      }

-- ---- the rounds

-- the sessions of a board on which nobody has asked
pub ready_at_start : (shift : Shift) (first_board : BoardState) (first : Progress) → first ≡ begin_at 0 → ShiftFits first_board.cell shift
    → first_board.sessions ≡ length shift.scripts → first_board.on ≡ opened first_board.on.parts → 2 * MAX_ASKS ≤ first_board.spare
    → IsReady shift (replicate 64 first) first_board
ready_at_start shift first_board first is fits sessions new room = record {
  fits = fits;
  sessions = sessions;
  going = subst (Going shift) (sym new) nobody;
  stands = rw (is, new) (record { count = refl; each = λ k within. same_everywhere {X = Progress} 64 k (begin_at 0) });
  room = omega (arith, room);
}
  where
    start_left : (n p : ℕ) → (n - 0) * p - 0 ≡ n * p
    start_left n p =
        let same : n - 0 ≡ n = omega arith in
        let none : n * p - 0 ≡ n * p = omega arith in
        ap (λ m. m * p - 0) same ∙ none

    left : sum_to (left_in shift []) (length shift.scripts) ≡ steps_of shift * shift.patience
    left =
        sum-same _ (left_in shift []) (length shift.scripts) (λ k. start_left (length (script_of shift k)) shift.patience)
        ∙ sum-elements (λ (script : List Request). length script * shift.patience) [] shift.scripts
        ∙ sum_by-times (length {A = Request}) shift.patience shift.scripts

    nobody : IsGoing shift [] []
    nobody = record {
      apart = λ i j d before within. absurd (omega arith);
      within = λ k known. record { step = omega arith; refusals = omega arith };
      waiting = All-nil (λ (w : Waiter). HasStep shift [] w.session);
      sessions = All-nil (λ (e : BoardEntry). IsSession shift e.session);
      few = omega (arith, left);
      room = omega arith;
    }

module _ (shift : Shift) (cell : Cell) (on : OnBoard) where
  -- a round that leaves the board is followed by such rounds alone
  rounds_stay : (n more m : ℕ) → m ≡ n + more → round cell shift (rounds n cell shift on) ≡ rounds n cell shift on
      → rounds m cell shift on ≡ rounds n cell shift on
  rounds_stay n zero m is same = ap (λ k. rounds k cell shift on) (is ∙ omega arith)
  rounds_stay n (suc more) zero is same = absurd (omega (arith, is))
  rounds_stay n (suc more) (suc m) is same = ap (round cell shift) (rounds_stay n more m (omega (arith, is)) same) ∙ same

  pub queue_run_is : (n : ℕ) → n ≤ steps_of shift * shift.patience → on ≡ opened on.parts
      → round cell shift (rounds n cell shift on) ≡ rounds n cell shift on → queue_run cell on.parts shift ≡ rounds n cell shift on
  unfolding queue_run
  queue_run_is n few new same =
      ap (rounds (steps_of shift * shift.patience) cell shift) (sym new)
      ∙ rounds_stay n (steps_of shift * shift.patience - n) (steps_of shift * shift.patience) (omega (arith, few)) same

-- one becoming after another
pub become_on : (old middle new : BoardState) (first then : OnBoard) → HasBecome old first middle → HasBecome middle then new
    → HasBecome old then new
become_on old middle new first then one two = record {
  is = two.is ∙ ap (λ (b : BoardState). record b { on = then; spare = new.spare }) one.is;
  spare = two.spare ∙ one.spare;
}

module _ (shift : Shift) (old middle new : BoardState) where
  -- a round after n others
  pub next_round : (n : ℕ) → HasBecome old (rounds n old.cell shift old.on) middle
      → HasBecome middle (round middle.cell shift middle.on) new → HasBecome old (rounds (suc n) old.cell shift old.on) new
  next_round n one two =
      let same : round middle.cell shift middle.on ≡ rounds (suc n) old.cell shift old.on =
      ap (λ (b : BoardState). round b.cell shift b.on) one.is in
      become_on old middle new (rounds n old.cell shift old.on) (rounds (suc n) old.cell shift old.on) one
      (subst (λ (on : OnBoard). HasBecome middle on new) same two)

  -- after a round that left the board, the run is over
  pub over_at : (progress : List Progress) → IsReady shift progress middle → (n : ℕ) → n ≤ length (asks_of middle.on.history)
      → old.on ≡ opened old.on.parts → HasBecome old (rounds n old.cell shift old.on) middle
      → HasBecome middle (round middle.cell shift middle.on) new → new.on ≡ middle.on
      → HasBecome old (queue_run old.cell old.on.parts shift) new
  over_at progress ready n few opened_at one two same =
      let at : middle.on ≡ rounds n old.cell shift old.on = ap (λ (b : BoardState). b.on) one.is in
      let round_is : new.on ≡ round old.cell shift (rounds n old.cell shift old.on) =
      ap (λ (b : BoardState). b.on) two.is ∙ ap (λ (b : BoardState). round b.cell shift b.on) one.is in
      let run : queue_run old.cell old.on.parts shift ≡ rounds n old.cell shift old.on =
      queue_run_is shift old.cell old.on n (omega (arith, few, few_asks shift middle.on ready.going)) opened_at
      (sym round_is ∙ same ∙ at) in
      become_on old middle new (rounds n old.cell shift old.on) (queue_run old.cell old.on.parts shift) one
      (subst (λ (on : OnBoard). HasBecome middle on new) (ap (λ (b : BoardState). round b.cell shift b.on) one.is
      ∙ sym round_is ∙ same ∙ at ∙ sym run) two)
