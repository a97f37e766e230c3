-- The steps of a scan, and what it leaves: each waiter waits for a full neighborhood.
use Rattle.std.proofs.Common.{◌≡◌, ℕ, zero, suc, ◌≤◌, Bool, true, false, not, Some, None, List, [], ◌∷◌, length, refl}
use Rattle.std.proofs.Common.{sym, ◌∙◌, ap, All, find, get_or, arith}
use Rattle.std.specs.Option.{option_map_or}
use Rattle.std.proofs.lemmas.List.Elements.{All-map}
use Rattle.cell_base.specs.declared.cells.Cell.{Cell}
use Rattle.cell_base.specs.declared.requests.Part.{Part}
use Rattle.cell_base.specs.declared.requests.Request.{Request}
use Rattle.cell_base.specs.declared.requests.Refusal.{Refusal}
use Rattle.cell_base.specs.declared.requests.Refusal.TheVariants.{Saturated}
use Rattle.cell_base.specs.declared.requests.Reply.{Reply}
use Rattle.cell_base.specs.declared.requests.Reply.TheVariants.{Granted, Refused}
use Rattle.cell_base.specs.Fits.{CellFits, RequestFits, IsWithin}
use Rattle.cell_base.specs.Outcomes.{reply_to}
use Rattle.cell_base.specs.Policy.{IsAdmitted}
use Rattle.policy_laws.proofs.Admission.{admission_law, saturation_law}
use Rattle.policy_laws.proofs.Lists.{All-found}
use Rattle.wait_queue.specs.declared.waiter.Waiter.{Waiter}
use Rattle.policy_laws.specs.Decisions.{is_saturation, is_saturated}
use Rattle.wait_queue.specs.Waiting.{is_ready, refusal_in, renewed, without_first}
use Rattle.wait_queue.proofs.Looks.{without-all}
use Rattle.wait_queue.proofs.Scanning.{length-without}
use Rattle.wait_board.specs.Boards.{OnBoard, after_wait, all_renewed, scan_within, scan}
use Rattle.wait_board.specs.BoardState.{IsFullFor, IsWaiting, IsOther, AreApart}
use Rattle.lists.proofs.Elements.{All-find_none}
use Rattle.wait_board.proofs.Pairs.{pairs-without, pairs-map}

false-true : {A : Type 0} → false ≡ true → A
false-true e = absurd (let h : false ≡ true = e in cc)

module _ (cell : Cell) where
  -- where nobody is ready the scan is at its end
  within-none : (n : ℕ) (on : OnBoard) → find (is_ready cell on.parts) on.waiters ≡ None → scan_within n cell on ≡ all_renewed cell on
  within-none zero on none = refl
  within-none (suc n) on none =
      ap (λ o. option_map_or (λ waiter. scan_within n cell (after_wait cell on waiter)) o (all_renewed cell on)) none

  pub scan-none : (on : OnBoard) → find (is_ready cell on.parts) on.waiters ≡ None → scan cell on ≡ all_renewed cell on
  scan-none on none = within-none (length on.waiters) on none

  -- the first waiter that is ready is after_wait, and the scan goes on
  pub scan-some : (on : OnBoard) (w : Waiter) → find (is_ready cell on.parts) on.waiters ≡ Some w
      → scan cell on ≡ scan cell (after_wait cell on w)
  scan-some on w some =
      ap (λ n. scan_within n cell on) (length-without (is_ready cell on.parts) on.waiters w some)
      ∙ ap (λ o. option_map_or (λ waiter. scan_within (length (without_first (is_ready cell on.parts) on.waiters)) cell
      (after_wait cell on waiter)) o (all_renewed cell on)) some

  module _ (fits : CellFits cell) where
    -- a saturation names a neighborhood that is full
    pub full : (parts : List Part) (request : Request) (why : Refusal) → IsAdmitted cell parts → RequestFits cell request
        → reply_to cell parts request ≡ Refused why → is_saturation why ≡ true → IsFullFor cell parts why
    full parts request (Saturated at held units) admitted fit is sat = saturation_law cell fits parts admitted request fit at held units is
    full parts request why admitted fit is sat = false-true sat

    module _ (sessions : ℕ) where
      -- what stays true of a waiter whatever the parts
      pub record Stays (w : Waiter) : Type 0 where
        pub session : IsWithin 1 sessions w.session
        pub request : RequestFits cell w.request

      -- a waiter that is not ready waits, with the refusal of its request
      waits : (parts : List Part) (w : Waiter) → IsAdmitted cell parts → Stays w → is_ready cell parts w ≡ false
          → IsWaiting cell parts sessions (renewed cell parts w)
      waits parts w admitted stays unready = by_reply (reply_to cell parts w.request) refl unready
        where
          unnot : (b : Bool) → not b ≡ false → b ≡ true
          unnot true e = refl
          unnot false e = false-true (sym e)

          by_reply : (r : Reply) → reply_to cell parts w.request ≡ r → not (is_saturated r) ≡ false
              → IsWaiting cell parts sessions (record w { refusal = refusal_in r w.refusal })
          by_reply Granted is un = false-true (sym un)
          by_reply (Refused why) is un = record {
            session = stays.session;
            request = stays.request;
            outcome = is;
            full = full parts w.request why admitted stays.request is (unnot (is_saturation why) un);
          }

      -- what each step of a scan keeps
      pub record Stands (on : OnBoard) : Type 0 where
        pub admitted : IsAdmitted cell on.parts
        pub stay : All Stays on.waiters
        pub apart : AreApart on.waiters

      -- what it leaves
      pub record IsSettled (on : OnBoard) : Type 0 where
        pub admitted : IsAdmitted cell on.parts
        pub waiting : All (IsWaiting cell on.parts sessions) on.waiters
        pub apart : AreApart on.waiters

      stands-decided : (on : OnBoard) (w : Waiter) → Stands on → find (is_ready cell on.parts) on.waiters ≡ Some w
          → Stands (after_wait cell on w)
      stands-decided on w stands some = record {
        admitted = (admission_law cell fits on.parts stands.admitted).request w.request
            (All-found Stays (is_ready cell on.parts) on.waiters w stands.stay some).request;
        stay = without-all (is_ready cell on.parts) Stays on.waiters stands.stay;
        apart = pairs-without (is_ready cell on.parts) IsOther on.waiters stands.apart;
      }

      settles : (on : OnBoard) → Stands on → find (is_ready cell on.parts) on.waiters ≡ None → IsSettled (all_renewed cell on)
      settles on stands none = record {
        admitted = stands.admitted;
        waiting = All-map (IsWaiting cell on.parts sessions) (renewed cell on.parts) on.waiters (λ k d within.
            waits on.parts (get_or on.waiters k d) stands.admitted (stands.stay k d within)
            (All-find_none (is_ready cell on.parts) on.waiters none k d within));
        apart = pairs-map IsOther IsOther (renewed cell on.parts) (λ a b other. other) on.waiters stands.apart;
      }

      nobody : (test : Waiter → Bool) (ws : List Waiter) → length ws ≤ 0 → find test ws ≡ None
      nobody test [] few = refl
      nobody test (w ∷ ws) few = absurd (omega arith)

      -- each step takes a waiter out, so in as many steps as there are waiters the scan comes to its end
      within-settled : (n : ℕ) (on : OnBoard) → length on.waiters ≤ n → Stands on → IsSettled (scan_within n cell on)
      within-settled zero on few stands = settles on stands (nobody (is_ready cell on.parts) on.waiters few)
      within-settled (suc n) on few stands =
          let test = is_ready cell on.parts in
          elim (find test on.waiters) as (λ o. find test on.waiters ≡ o
          → IsSettled (option_map_or (λ waiter. scan_within n cell (after_wait cell on waiter)) o (all_renewed cell on))) [
            | None ↦ λ none. settles on stands none
            | Some w ↦ λ some. within-settled n (after_wait cell on w)
                (let one = length-without test on.waiters w some in omega (arith, one, few)) (stands-decided on w stands some)
          ] refl

      -- a scan leaves only waiters that wait for a full neighborhood
      pub scan-settled : (on : OnBoard) → Stands on → IsSettled (scan cell on)
      scan-settled on stands = within-settled (length on.waiters) on (omega arith) stands
