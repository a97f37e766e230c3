-- One gate more of a walk.
use Rattle.std.specs.Prelude.{Option, Some, None, Result, Ok, Err, IsTrue, eqb}
use Rattle.std.proofs.Common.{◌≡◌, ◌≢◌, ℕ, zero, suc, ◌+◌, ◌-◌, ◌≤◌, List, [], ◌∷◌, ◌++◌}
use Rattle.std.proofs.Common.{length, take, drop, refl, sym, ◌∙◌, ap, arith, append_assoc}
use Rattle.std.proofs.lemmas.List.{append-nil, take_rest, drop_all, drop-append-le, length_push}
use Rattle.std.proofs.lemmas.Bool.Decides.{nat_tests}
use Rattle.journal_format.proofs.Windowed.{drop-drop_at}
use Rattle.cell_base.specs.declared.shifts.Grant.{Grant}
use Rattle.entry_codec.specs.declared.encoder.TheConstants.{ENTRY_SIZE}
use Rattle.journal_format.specs.declared.fault.JournalFault.{JournalFault}
use Rattle.journal_format.specs.declared.fault.JournalFault.TheVariants.{Long}
use Rattle.journal_format.specs.Readings.{gate_at, with_grant, with_grants, after_gate, grants_from}

pub closed_ends : (total room at : ℕ) (bytes : List ℕ) → gate_at at bytes ≡ Ok None → grants_from total room at bytes ≡ Ok []
unfolding grants_from
closed_ends total zero at bytes is = ap (λ r. after_gate r (Err (Long (total + 1)))) is
closed_ends total (suc room) at bytes is = ap (λ r. after_gate r (grants_from total room (at + ENTRY_SIZE) (drop ENTRY_SIZE bytes))) is

pub fault_ends : (total room at : ℕ) (bytes : List ℕ) (why : JournalFault) → gate_at at bytes ≡ Err why
    → grants_from total room at bytes ≡ Err why
unfolding grants_from
fault_ends total zero at bytes why is = ap (λ r. after_gate r (Err (Long (total + 1)))) is
fault_ends total (suc room) at bytes why is = ap (λ r. after_gate r (grants_from total room (at + ENTRY_SIZE) (drop ENTRY_SIZE bytes))) is

pub too_long : (total room at : ℕ) (bytes : List ℕ) (grant : Grant) → room ≡ 0 → gate_at at bytes ≡ Ok (Some grant)
    → grants_from total room at bytes ≡ Err (Long (total + 1))
unfolding grants_from
too_long total zero at bytes grant none is = ap (λ r. after_gate r (Err (Long (total + 1)))) is
too_long total (suc room) at bytes grant none is = absurd (omega arith)

pub one_more : (total room left at : ℕ) (bytes : List ℕ) (grant : Grant) → room ≡ left + 1 → gate_at at bytes ≡ Ok (Some grant)
    → grants_from total room at bytes ≡ with_grant grant (grants_from total left (at + ENTRY_SIZE) (drop ENTRY_SIZE bytes))
unfolding grants_from
one_more total zero left at bytes grant more is = absurd (omega arith)
one_more total (suc room) left at bytes grant more is =
    let same : room ≡ left = omega arith in
    ap (λ r. after_gate r (grants_from total room (at + ENTRY_SIZE) (drop ENTRY_SIZE bytes))) is
    ∙ ap (λ (k : ℕ). with_grant grant (grants_from total k (at + ENTRY_SIZE) (drop ENTRY_SIZE bytes))) same

abbrev ok : List Grant → Result (List Grant) JournalFault
ok grants = Ok grants

pub with_grants-push : (front : List Grant) (grant : Grant) (rest : Result (List Grant) JournalFault)
    → with_grants front (with_grant grant rest) ≡ with_grants (front ++ grant ∷ []) rest
with_grants-push front grant (Ok grants) = ap (λ (l : List Grant). ok l) (sym (append_assoc front (grant ∷ []) grants))
with_grants-push front grant (Err why) = refl

pub with_none : (front : List Grant) → with_grants front (Ok []) ≡ Ok front
with_none front = ap (λ (l : List Grant). ok l) (append-nil front)

-- what stands at a gate of the file, from what stands at it in the window
pub gate_known : (file kept seen : List ℕ) (gate at used len : ℕ) (found : Result (Option Grant) JournalFault) → seen ≡ kept
    → (length file ≡ len) × (drop gate file ≡ drop used kept ++ drop at file)
    → ((unread : List ℕ) → (IsTrue (eqb at len) → unread ≡ [])
    → gate_at gate (take (length seen - used) (drop used seen) ++ unread) ≡ found) → gate_at gate (drop gate file) ≡ found
gate_known file kept seen gate at used len found same shows each =
    let window : take (length seen - used) (drop used seen) ≡ drop used kept = take_rest seen used
    ∙ ap (λ (l : List ℕ). drop used l) same in
    let last : IsTrue (eqb at len) → drop at file ≡ [] =
    λ end. drop_all at file (let is : at ≡ len = grind (arith, nat_tests) in omega (arith, is, shows.0)) in
    ap (gate_at gate) (shows.1 ∙ ap (λ (l : List ℕ). l ++ drop at file) (sym window)) ∙ each (drop at file) last

pub shows_more : (file kept : List ℕ) (gate at used n : ℕ) → n ≤ length (drop used kept)
    → drop gate file ≡ drop used kept ++ drop at file → drop (gate + n) file ≡ drop (used + n) kept ++ drop at file
shows_more file kept gate at used n long shows =
    sym (drop-drop_at gate n file) ∙ ap (λ (l : List ℕ). drop n l) shows ∙ drop-append-le n (drop used kept) (drop at file) long
    ∙ ap (λ (l : List ℕ). l ++ drop at file) (drop-drop_at used n kept)

pub walk_step : (file : List ℕ) (grants new : List Grant) (grant : Grant) (total first gate : ℕ) → new ≡ grants ++ grant ∷ []
    → length grants ≤ total → length grants ≢ total → gate_at gate (drop gate file) ≡ Ok (Some grant)
    → grants_from total total first (drop first file) ≡ with_grants grants (grants_from total (total - length grants) gate (drop gate file))
    → grants_from total total first (drop first file)
    ≡ with_grants new (grants_from total (total - length new) (gate + ENTRY_SIZE) (drop (gate + ENTRY_SIZE) file))
walk_step file grants new grant total first gate is within other at_gate walked =
    let long : length new ≡ length grants + 1 = ap length is ∙ length_push grants grant in
    let left : total - length grants ≡ (total - length new) + 1 = omega (arith, long, within, other) in
    walked ∙ ap (with_grants grants) (one_more total (total - length grants) (total - length new) gate (drop gate file) grant left at_gate)
    ∙ with_grants-push grants grant (grants_from total (total - length new) (gate + ENTRY_SIZE) (drop ENTRY_SIZE (drop gate file)))
    ∙ (λ i. with_grants (sym is i) (grants_from total (total - length new) (gate + ENTRY_SIZE) (drop-drop_at gate ENTRY_SIZE file i)))
