-- One grant more of a replay, and what a replay comes to.
use Rattle.std.specs.Prelude.{Bool, true, false, if◌then◌else◌, Option, Some, None, Result, Ok, Err, OnOk}
use Rattle.std.specs.Option.{option_map_or}
use Rattle.std.proofs.Common.{◌≡◌, ℕ, ◌+◌, ◌*◌, List, [], ◌∷◌, ◌++◌, length, refl, sym, ◌∙◌, ap, arith}
use Rattle.cell_base.specs.declared.cells.Cell.{Cell}
use Rattle.cell_base.specs.declared.requests.Part.{Part}
use Rattle.cell_base.specs.declared.shifts.Grant.{Grant}
use Rattle.cell_base.specs.Histories.{after_requests, requests_of}
use Rattle.cell_base.specs.Outcomes.{state_after}
use Rattle.entry_codec.specs.declared.encoder.TheConstants.{ENTRY_SIZE}
use Rattle.journal_format.specs.declared.head.TheConstants.{TEXT_AT}
use Rattle.admission_core.specs.CoreState.{CoreState}
use Rattle.durable_cell.specs.Replays.{HasReplayed}
use Rattle.journal_format.specs.declared.fault.JournalFault.{JournalFault}
use Rattle.journal_format.specs.declared.fault.JournalFault.TheVariants.{Damaged}
use Rattle.journal_format.specs.Readings.{read_as}
use Rattle.journal_format.specs.Replayed.{first_stray, is_due, opened_as, replayed_reading}

-- the state after one grant more
pub after_more : (cell : Cell) (parts : List Part) (grants : List Grant) (grant : Grant)
    → after_requests cell parts (requests_of (grants ++ grant ∷ []))
    ≡ state_after cell (after_requests cell parts (requests_of grants)) grant.request
after_more cell parts [] grant = refl
after_more cell parts (first ∷ grants) grant = after_more cell (state_after cell parts first.request) grants grant

-- where the stray stands, by the test of a grant
abbrev pub stray_by : Bool → ℕ → Option ℕ → Option ℕ
stray_by due at behind = if due then behind else Some at

goes_on : (due : Bool) (at : ℕ) (behind : Option ℕ) → stray_by due at behind ≡ None → (due ≡ true) × (behind ≡ None)
goes_on true at behind is = (refl, is)
goes_on false at behind is = absurd (cc)

stays : (due : Bool) (at found : ℕ) (behind more : Option ℕ) → stray_by due at behind ≡ Some found
    → (behind ≡ Some found → more ≡ Some found) → stray_by due at more ≡ Some found
stays true at found behind more is further = further is
stays false at found behind more is further = is

-- a grant that strays strays whatever comes after it
pub stray_stays : (cell : Cell) (parts : List Part) (at found : ℕ) (grants : List Grant) (grant : Grant)
    → first_stray cell parts at grants ≡ Some found → first_stray cell parts at (grants ++ grant ∷ []) ≡ Some found
stray_stays cell parts at found [] grant is = absurd (cc)
stray_stays cell parts at found (first ∷ grants) grant is =
    let next = state_after cell parts first.request in
    stays (is_due cell parts first.request) at found (first_stray cell next (at + ENTRY_SIZE) grants)
    (first_stray cell next (at + ENTRY_SIZE) (grants ++ grant ∷ [])) is (stray_stays cell next (at + ENTRY_SIZE) found grants grant)

-- where none strays the next one does exactly where it isn't due
pub stray_more : (cell : Cell) (parts : List Part) (at gate : ℕ) (grants : List Grant) (grant : Grant)
    → first_stray cell parts at grants ≡ None → gate ≡ at + ENTRY_SIZE * length grants
    → first_stray cell parts at (grants ++ grant ∷ [])
    ≡ stray_by (is_due cell (after_requests cell parts (requests_of grants)) grant.request) gate None
stray_more cell parts at gate [] grant is gate_is =
    let same : at ≡ gate = omega (arith, gate_is) in
    ap (λ (n : ℕ). stray_by (is_due cell parts grant.request) n None) same
stray_more cell parts at gate (first ∷ grants) grant is gate_is =
    let next = state_after cell parts first.request in
    let way = goes_on (is_due cell parts first.request) at (first_stray cell next (at + ENTRY_SIZE) grants) is in
    ap (λ (b : Bool). stray_by b at (first_stray cell next (at + ENTRY_SIZE) (grants ++ grant ∷ []))) way.0
    ∙ stray_more cell next (at + ENTRY_SIZE) gate grants grant way.1 (omega (arith, gate_is))

-- after a stray the replay stays where it is
pub strayed_stays : (start old new : CoreState) (first found : ℕ) (grants : List Grant) (grant : Grant) → new.cell ≡ old.cell
    → HasReplayed start first grants old (Some found) → HasReplayed start first (grants ++ grant ∷ []) new (Some found)
strayed_stays start old new first found grants grant same has = record {
  cell = same ∙ has.cell;
  strays = stray_stays start.cell [] first found grants grant has.strays;
  state = λ none. absurd (cc none);
}

-- one grant more is replayed where it is due, and strays where it isn't
pub one_more : (start old new : CoreState) (first gate : ℕ) (grants : List Grant) (grant : Grant) (due : Bool) → new.cell ≡ old.cell
    → due ≡ is_due old.cell old.parts grant.request → (due ≡ true → new.parts ≡ state_after old.cell old.parts grant.request)
    → gate ≡ first + ENTRY_SIZE * length grants → HasReplayed start first grants old None
    → HasReplayed start first (grants ++ grant ∷ []) new (stray_by due gate None)
one_more start old new first gate grants grant due same due_is moved gate_is has =
    let parts_are : old.parts ≡ after_requests start.cell [] (requests_of grants) = has.state refl in
    record {
      cell = same ∙ has.cell;
      strays = stray_more start.cell [] first gate grants grant has.strays gate_is
          ∙ ap (λ (b : Bool). stray_by b gate None) (sym (due_is ∙ (λ i. is_due (has.cell i) (parts_are i) grant.request)));
      state = λ none. moved (goes_on due gate None none).0 ∙ (λ i. state_after (has.cell i) (parts_are i) grant.request)
          ∙ sym (after_more start.cell [] grants grant);
    }

-- both, where a call succeeds
pub both_ok : {T E A : Type 0} (B : Type 0) (r : Result T E) → A → OnOk r B → OnOk r (A × B)
both_ok B (Ok x) a b = (a, b)
both_ok B (Err e) a b = tt

-- what the bytes open as, where they are read as grants of which one strays or none
pub opened_by : (cell : Cell) (file text : List ℕ) (room first : ℕ) (grants : List Grant) (stray : Option ℕ)
    → read_as file text room ≡ Ok (Some grants) → first ≡ TEXT_AT + length text → first_stray cell [] first grants ≡ stray
    → opened_as cell file text room ≡ option_map_or (λ at. Err (Damaged at)) stray (Ok grants)
opened_by cell file text room first grants stray read first_is strays =
    ap (replayed_reading cell text) read
    ∙ ap (λ (n : ℕ). ending (first_stray cell [] n grants)) (sym first_is)
    ∙ ap (λ (o : Option ℕ). ending o) strays
  where
    ending : Option ℕ → Result (List Grant) JournalFault
    ending o = option_map_or (λ (at : ℕ). fault at) o (good grants)
      where
        good : List Grant → Result (List Grant) JournalFault
        good all = Ok all

        fault : ℕ → Result (List Grant) JournalFault
        fault at = Err (Damaged at)
