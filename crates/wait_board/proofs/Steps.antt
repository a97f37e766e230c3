-- A step of the scan's loop is a step of the scan.
use Rattle.std.proofs.Common.{◌≡◌, ℕ, ◌+◌, false, Some, None, List, [], ◌∷◌, ◌++◌, length, map, refl, sym, ◌∙◌, ap, subst, find}
use Rattle.std.proofs.lemmas.List.{length-append}
use Rattle.cell_base.specs.declared.cells.Cell.{Cell}
use Rattle.cell_base.specs.declared.cells.ResId.{ResId}
use Rattle.cell_base.specs.declared.requests.Refusal.{Refusal}
use Rattle.cell_base.specs.declared.requests.Refusal.TheVariants.{Saturated}
use Rattle.policy_laws.specs.Decisions.{is_saturation}
use Rattle.cell_base.specs.Outcomes.{reply_to, state_after}
use Rattle.admission_core.specs.CoreState.{CoreState}
use Rattle.wait_queue.specs.declared.waiter.Waiter.{Waiter}
use Rattle.wait_queue.specs.Waiting.{is_ready, renewed, without_first}
use Rattle.wait_board.specs.declared.entries.BoardEntry.{BoardEntry}
use Rattle.wait_board.specs.Boards.{entry, end_of_wait, after_wait, all_renewed, scan}
use Rattle.wait_board.specs.BoardState.{on_board}
use Rattle.wait_board.proofs.Scans.{scan-some, scan-none}

pub scan-step : (cell : Cell) (core next : CoreState) (ws rest : List Waiter) (told longer : List BoardEntry) (w : Waiter)
    → core.cell ≡ cell → find (is_ready core.cell core.parts) ws ≡ Some w → rest ≡ without_first (is_ready core.cell core.parts) ws
    → next ≡ record core { parts = state_after core.cell core.parts w.request }
    → longer ≡ told ++ entry w.session w.request (end_of_wait (reply_to core.cell core.parts w.request)) ∷ []
    → scan cell (on_board next rest longer) ≡ scan cell (on_board core ws told)
scan-step cell core next ws rest told longer w is_cell found is_rest is_next is_longer =
    let on = on_board core ws told in
    let is_decided : on_board next rest longer ≡ after_wait core.cell on w =
    λ k. record { parts = (ap (λ (c : CoreState). c.parts) is_next) k; waiters = is_rest k; history = is_longer k } in
    subst (λ (c : Cell). scan c (on_board next rest longer) ≡ scan c on) is_cell
    (ap (scan core.cell) is_decided ∙ sym (scan-some core.cell on w found))

-- where nobody is ready the renewed waiters are the end of the scan
pub scan-end : (cell : Cell) (core : CoreState) (ws new : List Waiter) (told : List BoardEntry) → core.cell ≡ cell
    → find (is_ready core.cell core.parts) ws ≡ None → new ≡ map (renewed core.cell core.parts) ws
    → on_board core new told ≡ scan cell (on_board core ws told)
scan-end cell core ws new told is_cell nobody is_new =
    let on = on_board core ws told in
    let is_settled : on_board core new told ≡ all_renewed core.cell on =
    λ k. record { parts = core.parts; waiters = is_new k; history = told } in
    subst (λ (c : Cell). on_board core new told ≡ scan c on) is_cell (is_settled ∙ sym (scan-none core.cell on nobody))

-- one entry more
pub one-more : (told longer : List BoardEntry) (e : BoardEntry) → longer ≡ told ++ e ∷ [] → length longer ≡ length told + 1
one-more told longer e is = ap (λ (xs : List BoardEntry). length xs) is ∙ length-append told (e ∷ [])

-- a refusal that names no neighborhood is no saturation
pub unsaturated : (why : Refusal) → ((at : ResId) (held units : ℕ) → why ≡ Saturated at held units → ⊥) → is_saturation why ≡ false
unsaturated (Saturated at held units) not = absurd (not at held units refl)
unsaturated why not = refl
