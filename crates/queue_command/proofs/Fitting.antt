-- What stands on the board of a shift fits the cell.
use Rattle.std.proofs.Common.{◌≡◌, ℕ, zero, suc, ◌-◌, ◌*◌, ◌&&◌, nat_lt, Bool, true, false, cond, Option}
use Rattle.std.proofs.Common.{Some, None, List, [], ◌∷◌, ◌++◌, length, slice_get, All, find, refl}
use Rattle.std.specs.Prelude.{unwrap_or}
use Rattle.std.specs.Option.{is_none, option_map_or}
use Rattle.std.proofs.lemmas.List.Elements.{All-append, All-cons, All-map, All-nil, All-weaker}
use Rattle.cell_base.specs.declared.cells.Cell.{Cell}
use Rattle.cell_base.specs.declared.requests.Part.{Part}
use Rattle.cell_base.specs.declared.requests.Refusal.{Refusal}
use Rattle.cell_base.specs.declared.requests.Reply.{Reply}
use Rattle.cell_base.specs.declared.requests.Reply.TheVariants.{Granted, Refused}
use Rattle.cell_base.specs.declared.requests.Request.{Request}
use Rattle.cell_base.specs.declared.shifts.Shift.{Shift}
use Rattle.cell_base.specs.Fits.{CellFits, RequestFits, ShiftFits, steps_of}
use Rattle.cell_base.specs.Outcomes.{reply_to, state_after}
use Rattle.cell_base.specs.Plans.{Drains, plan_of}
use Rattle.cell_base.specs.Policy.{IsAdmitted}
use Rattle.cell_base.specs.Scripts.{script_of}
use Rattle.policy_laws.specs.Decisions.{is_saturation}
use Rattle.policy_laws.proofs.Admission.{state_after_admitted}
use Rattle.policy_laws.proofs.Lists.{All-found, All-slice_get}
use Rattle.policy_laws.proofs.Plans.{plan_law}
use Rattle.policy_laws.proofs.States.{IsAdmitted-empty}
use Rattle.record_printer.proofs.Fitting.{refusal_fits}
use Rattle.wait_board.specs.declared.entries.BoardEntry.{BoardEntry}
use Rattle.wait_board.specs.declared.entries.BoardTold.TheVariants as told
use Rattle.wait_queue.specs.declared.waiter.Waiter.{Waiter}
use Rattle.wait_board.specs.Boards.{OnBoard, board, after_wait, end_of_wait, entry, with_waiter, noted}
use Rattle.wait_board.specs.Boards.{opened, scan_within, all_renewed, told_on}
use Rattle.wait_queue.specs.Waiting.{is_ready, renewed, waiter_of}
use Rattle.wait_board.specs.BoardState.{IsWaiting}
use Rattle.wait_queue.proofs.Looks.{without-all}
use Rattle.board_rounds.specs.Rounds.{present_step, progress_in, queue_run, rounds, turn, turns}
use Rattle.queue_command.specs.Lines.{BoardFits, BoardEntryFits, BoardToldFits, WaiterFits}

module _ (cell : Cell) (fits : CellFits cell) where
  end_fits : (parts : List Part) (request : Request) → IsAdmitted cell parts → RequestFits cell request
      → BoardToldFits cell (end_of_wait (reply_to cell parts request))
  end_fits parts request admitted fit = by_reply (reply_to cell parts request) refl
    where
      by_reply : (r : Reply) → reply_to cell parts request ≡ r → BoardToldFits cell (end_of_wait r)
      by_reply Granted is = tt
      by_reply (Refused why) is = refusal_fits cell fits parts request why admitted fit is

  -- what every ask and every step of a scan keeps
  record Fit (on : OnBoard) : Type 0 where
    pub admitted : IsAdmitted cell on.parts
    pub entries : All (BoardEntryFits cell) on.history
    pub requests : All (λ (w : Waiter). RequestFits cell w.request) on.waiters

  push_fits : (history : List BoardEntry) (e : BoardEntry) → All (BoardEntryFits cell) history → BoardEntryFits cell e
      → All (BoardEntryFits cell) (history ++ e ∷ [])
  push_fits history e all one =
      All-append (BoardEntryFits cell) history (e ∷ []) all (All-cons (BoardEntryFits cell) e [] one (All-nil (BoardEntryFits cell)))

  decided_fit : (on : OnBoard) (w : Waiter) → find (is_ready cell on.parts) on.waiters ≡ Some w → Fit on → Fit (after_wait cell on w)
  decided_fit on w some fit =
      let Asks : Waiter → Type 0 = λ w. RequestFits cell w.request in
      let test = is_ready cell on.parts in
      let request : RequestFits cell w.request = All-found Asks test on.waiters w fit.requests some in
      record {
        admitted = state_after_admitted cell fits on.parts w.request fit.admitted request;
        entries = push_fits on.history (entry w.session w.request (end_of_wait (reply_to cell on.parts w.request))) fit.entries
            (record { request = request; told = end_fits on.parts w.request fit.admitted request });
        requests = without-all test Asks on.waiters fit.requests;
      }

  settled_fit : (on : OnBoard) → Fit on → Fit (all_renewed cell on)
  settled_fit on fit = record {
    admitted = fit.admitted;
    entries = fit.entries;
    requests = All-map (λ (w : Waiter). RequestFits cell w.request) (renewed cell on.parts) on.waiters
        (λ k d inside. fit.requests k d inside);
  }

  scan_fit : (n : ℕ) (on : OnBoard) → Fit on → Fit (scan_within n cell on)
  scan_fit zero on fit = settled_fit on fit
  scan_fit (suc n) on fit =
      elim (find (is_ready cell on.parts) on.waiters) as (λ o. find (is_ready cell on.parts) on.waiters ≡ o
      → Fit (option_map_or (λ waiter. scan_within n cell (after_wait cell on waiter)) o (all_renewed cell on))) [
        | None ↦ λ none. settled_fit on fit
        | Some w ↦ λ some. scan_fit n (after_wait cell on w) (decided_fit on w some fit)
      ] refl

  board_fit : (on : OnBoard) (session : ℕ) (request : Request) → RequestFits cell request → Fit on → Fit (board cell on session request)
  board_fit on session request asks fit = by_reply (reply_to cell on.parts request) refl
    where
      by_saturation : (why : Refusal) → reply_to cell on.parts request ≡ Refused why → (b : Bool)
          → Fit (cond b (with_waiter on session request why) (noted on session request (told.Refused why)))
      by_saturation why is true = record {
        admitted = fit.admitted;
        entries = push_fits on.history (entry session request (told.Waits why)) fit.entries
            (record { request = asks; told = refusal_fits cell fits on.parts request why fit.admitted asks is });
        requests =
            let new : Waiter = record { session = session; request = request; refusal = why } in
            let Asks : Waiter → Type 0 = λ w. RequestFits cell w.request in
            All-append Asks on.waiters (new ∷ []) fit.requests (All-cons Asks new [] asks (All-nil Asks));
      }
      by_saturation why is false = record {
        admitted = fit.admitted;
        entries = push_fits on.history (entry session request (told.Refused why)) fit.entries
            (record { request = asks; told = refusal_fits cell fits on.parts request why fit.admitted asks is });
        requests = fit.requests;
      }

      by_reply : (r : Reply) → reply_to cell on.parts request ≡ r → Fit (told_on cell on session request r)
      by_reply Granted is =
          let noted_on : OnBoard = record (noted on session request told.Granted) { parts = state_after cell on.parts request } in
          scan_fit (length on.waiters) noted_on (record {
            admitted = state_after_admitted cell fits on.parts request fit.admitted asks;
            entries = push_fits on.history (entry session request told.Granted) fit.entries (record { request = asks; told = tt });
            requests = fit.requests;
          })
      by_reply (Refused why) is = by_saturation why is (is_saturation why)

  -- ---- the rounds

  module _ (shift : Shift) (shift_fits : ShiftFits cell shift) where
    step_fits : (session k : ℕ) (request : Request) → slice_get (script_of shift session) k ≡ Some request → RequestFits cell request
    step_fits session k request = at (slice_get shift.scripts (session - 1)) refl
      where
        at : (o : Option (List Request)) → slice_get shift.scripts (session - 1) ≡ o → slice_get (unwrap_or o []) k ≡ Some request
            → RequestFits cell request
        at None is step = absurd (let h : None ≡ Some request = step in cc)
        at (Some script) is step =
            All-slice_get (RequestFits cell) script k request
            (All-slice_get (All (RequestFits cell)) shift.scripts (session - 1) script shift_fits.requests is) step

    turn_fit : (on : OnBoard) (session : ℕ) → Fit on → Fit (turn cell shift on session)
    turn_fit on session fit = by_step (present_step shift on session) refl
      where
        tested : (b : Bool) (o : Option Request) (request : Request) → cond b o None ≡ Some request → o ≡ Some request
        tested true o request e = e
        tested false o request e = absurd (let h : None ≡ Some request = e in cc)

        by_step : (o : Option Request) → present_step shift on session ≡ o
            → Fit (option_map_or (λ request. board cell on session request) o on)
        by_step None is = fit
        by_step (Some request) is =
            board_fit on session request
            (step_fits session (progress_in on.history session).step request
            (tested (nat_lt (progress_in on.history session).refusals shift.patience && is_none (waiter_of on.waiters session))
            (slice_get (script_of shift session) (progress_in on.history session).step) request is)) fit

    turns_fit : (n : ℕ) (on : OnBoard) → Fit on → Fit (turns cell shift on n)
    turns_fit zero on fit = fit
    turns_fit (suc n) on fit = turn_fit (turns cell shift on n) (suc n) (turns_fit n on fit)

    rounds_fit : (n : ℕ) (on : OnBoard) → Fit on → Fit (rounds n cell shift on)
    rounds_fit zero on fit = fit
    rounds_fit (suc n) on fit = turns_fit (length shift.scripts) (rounds n cell shift on) (rounds_fit n on fit)

    run_fit : Fit (queue_run cell [] shift)
    unfolding queue_run
    run_fit =
        rounds_fit (steps_of shift * shift.patience) (opened []) (record {
          admitted = IsAdmitted-empty cell;
          entries = All-nil (BoardEntryFits cell);
          requests = All-nil (λ (w : Waiter). RequestFits cell w.request);
        })

    -- the plan of what is left drains it
    pub run_drains : let on = queue_run cell [] shift in Drains cell on.parts (plan_of cell on.parts)
    run_drains = (plan_law cell fits (queue_run cell [] shift).parts run_fit.admitted).drains

    -- and each line can be written
    pub run_fits : (n : ℕ) → let on = queue_run cell [] shift in All (IsWaiting cell on.parts n) on.waiters → BoardFits cell on
    run_fits n waiting = record {
      entries = run_fit.entries;
      waiters = All-weaker (IsWaiting cell (queue_run cell [] shift).parts n) (WaiterFits cell)
          (λ w is. record {
            request = is.request;
            refusal = refusal_fits cell fits (queue_run cell [] shift).parts w.request w.refusal run_fit.admitted is.request is.outcome;
          }) (queue_run cell [] shift).waiters waiting;
    }
