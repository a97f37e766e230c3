-- The grants that are found are those for which the bytes stand.
use Rattle.std.specs.Prelude.{Option, Some, None, Result, Ok, Err, Bool, true, false, not, nat_lt, if◌then◌else◌, ◌==◌}
use Rattle.std.specs.Option.{option_map_or}
use Rattle.std.specs.List.{AllByRecursion}
use Rattle.std.proofs.Common.{◌≡◌, ◌≢◌, ◌⊎◌, inl, inr, ℕ, zero, suc, ◌+◌, ◌≤◌, List, [], ◌∷◌, ◌++◌, length, take, drop}
use Rattle.std.proofs.Common.{refl, sym, ◌∙◌, ap, subst, arith, append_assoc, take-append-drop, length-append}
use Rattle.std.proofs.lemmas.List.{take_at, drop_at}
use Rattle.std.proofs.lemmas.Bool.Decides.{nat_tests}
use Rattle.cell_base.specs.declared.shifts.Grant.{Grant}
use Rattle.entry_codec.specs.declared.encoder.TheConstants.{ENTRY_SIZE}
use Rattle.entry_codec.specs.Decoding.{grant_of}
use Rattle.entry_codec.specs.Records.{record_of}
use Rattle.entry_codec.specs.RecordLaws.{length-record_of, record_of-grant_of}
use Rattle.journal_format.specs.Journals.{entries, IsReadAgain}
use Rattle.journal_format.specs.declared.fault.JournalFault.{JournalFault}
use Rattle.journal_format.specs.declared.fault.JournalFault.TheVariants.{Damaged, Long}
use Rattle.journal_format.specs.Readings.{gate_at, with_grant, after_gate, grants_from}
use Rattle.journal_format.proofs.Windowed.{gate_open}
use Rattle.journal_format.proofs.Stepping.{closed_ends, one_more}

-- open records of the grants, and after them a closed gate
pub record Ends (bytes : List ℕ) (grants : List Grant) : Type 0 where
  pub each : AllByRecursion IsReadAgain grants
  pub gate : ℕ
  pub closed : gate ≢ 1
  pub later : List ℕ
  pub split : bytes ≡ entries grants ++ gate ∷ later

abbrev gate_by : (shut short : Bool) (at : ℕ) → Option Grant → Result (Option Grant) JournalFault
gate_by shut short at found = if shut then Ok None else if short then Err (Damaged at) else option_map_or
    (λ grant. Ok (Some grant)) found (Err (Damaged at))

by_none : (shut short : Bool) (at : ℕ) (found : Option Grant) → gate_by shut short at found ≡ Ok None → shut ≡ true
by_none true short at found is = refl
by_none false true at found is = absurd (cc)
by_none false false at None is = absurd (cc)
by_none false false at (Some grant) is = absurd (cc)

by_some : (shut short : Bool) (at : ℕ) (found : Option Grant) (grant : Grant) → gate_by shut short at found ≡ Ok (Some grant)
    → (shut ≡ false) × (found ≡ Some grant)
by_some true short at found grant is = absurd (cc)
by_some false true at found grant is = absurd (cc)
by_some false false at None grant is = absurd (cc)
by_some false false at (Some other) grant is = (refl, cc)

is_shut : (gate : ℕ) → not (gate == 1) ≡ true → gate ≢ 1
is_shut gate shut = grind (arith, nat_tests)

is_open : (gate : ℕ) → not (gate == 1) ≡ false → gate ≡ 1
is_open gate shut = grind (arith, nat_tests)

closed_there : (at : ℕ) (bytes : List ℕ) → gate_at at bytes ≡ Ok None → Ends bytes []
unfolding gate_at
closed_there at [] is = absurd (cc)
closed_there at (gate ∷ after) is =
    let shut = by_none (not (gate == 1)) (nat_lt (length after) ENTRY_SIZE) at (grant_of (take 16 after)) is in
    record { each = tt; gate = gate; closed = is_shut gate shut; later = after; split = refl }

open_there : (at : ℕ) (bytes : List ℕ) (grant : Grant) → gate_at at bytes ≡ Ok (Some grant)
    → (bytes ≡ (1 ∷ record_of grant) ++ drop ENTRY_SIZE bytes) × IsReadAgain grant
unfolding gate_at
open_there at [] grant is = absurd (cc)
open_there at (gate ∷ after) grant is =
    let way = by_some (not (gate == 1)) (nat_lt (length after) ENTRY_SIZE) at (grant_of (take 16 after)) grant is in
    let record_is : record_of grant ≡ take 16 after = record_of-grant_of (take 16 after) grant way.1 in
    let front : gate ≡ 1 = is_open gate way.0 in (
      (λ i. front i ∷ (sym (take-append-drop 16 after) ∙ ap (λ (l : List ℕ). l ++ drop 16 after) (sym record_is)) i),
      ap grant_of record_is ∙ way.1,
    )

walk_by : (found : Result (Option Grant) JournalFault) (rest : Result (List Grant) JournalFault) (grants : List Grant)
    → after_gate found rest ≡ Ok grants
    → ((found ≡ Ok None) × (grants ≡ []))
    ⊎ ((grant : Grant) × (others : List Grant) × (found ≡ Ok (Some grant)) × (rest ≡ Ok others) × (grants ≡ grant ∷ others))
walk_by (Err why) rest grants is = absurd (cc)
walk_by (Ok None) rest grants is = inl (refl, cc)
walk_by (Ok (Some grant)) (Ok others) grants is = inr (grant, others, refl, refl, cc)
walk_by (Ok (Some grant)) (Err why) grants is = absurd (cc)

joins : (at : ℕ) (bytes : List ℕ) (grant : Grant) (others : List Grant) → gate_at at bytes ≡ Ok (Some grant)
    → Ends (drop ENTRY_SIZE bytes) others → Ends bytes (grant ∷ others)
joins at bytes grant others is ends =
    let there = open_there at bytes grant is in
    record {
      each = (there.1, ends.each);
      gate = ends.gate;
      closed = ends.closed;
      later = ends.later;
      split = there.0 ∙ ap (λ (l : List ℕ). (1 ∷ record_of grant) ++ l) ends.split
          ∙ sym (append_assoc (1 ∷ record_of grant) (entries others) (ends.gate ∷ ends.later));
    }

pub walk_back : (total room at : ℕ) (bytes : List ℕ) (grants : List Grant) → grants_from total room at bytes ≡ Ok grants → Ends bytes grants
unfolding grants_from
walk_back total zero at bytes grants is = elim (walk_by (gate_at at bytes) (Err (Long (total + 1))) grants is) [
  | inl shut ↦ subst (λ (g : List Grant). Ends bytes g) (sym shut.1) (closed_there at bytes shut.0)
  | inr more ↦ absurd (cc (more.3))
]
walk_back total (suc room) at bytes grants is =
    elim (walk_by (gate_at at bytes) (grants_from total room (at + ENTRY_SIZE) (drop ENTRY_SIZE bytes)) grants is) [
      | inl shut ↦ subst (λ (g : List Grant). Ends bytes g) (sym shut.1) (closed_there at bytes shut.0)
      | inr more ↦ subst (λ (g : List Grant). Ends bytes g) (sym more.4)
          (joins at bytes more.0 more.1 more.2 (walk_back total room (at + ENTRY_SIZE) (drop ENTRY_SIZE bytes) more.1 more.3))
    ]

-- and the other way round
gate_of_record : (at : ℕ) (grant : Grant) (rest : List ℕ) → IsReadAgain grant → 1 ≤ length rest
    → gate_at at ((1 ∷ record_of grant) ++ rest) ≡ Ok (Some grant)
gate_of_record at grant rest is some =
    gate_open at 1 (record_of grant ++ rest) grant refl
    (omega (arith, some, length-append (record_of grant) rest, length-record_of grant))
    (ap grant_of (take_at (record_of grant) rest 16 (length-record_of grant)) ∙ is)

gate_shut : (at gate : ℕ) (after : List ℕ) → gate ≢ 1 → gate_at at (gate ∷ after) ≡ Ok None
unfolding gate_at
gate_shut at gate after shut =
    ap (λ (b : Bool). gate_by b (nat_lt (length after) ENTRY_SIZE) at (grant_of (take 16 after))) (stays gate shut)
  where
    stays : (gate : ℕ) → gate ≢ 1 → not (gate == 1) ≡ true
    stays gate shut = grind (arith, nat_tests)

pub walk_there : (total room at : ℕ) (grants : List Grant) (gate : ℕ) (after : List ℕ) → AllByRecursion IsReadAgain grants
    → gate ≢ 1 → length grants ≤ room → grants_from total room at (entries grants ++ gate ∷ after) ≡ Ok grants
walk_there total room at [] gate after each shut fits = closed_ends total room at (gate ∷ after) (gate_shut at gate after shut)
walk_there total zero at (grant ∷ grants) gate after each shut fits = absurd (omega arith)
walk_there total (suc room) at (grant ∷ grants) gate after each shut fits =
    let rest : List ℕ = entries grants ++ gate ∷ after in
    let some : 1 ≤ length rest = omega (arith, length-append (entries grants) (gate ∷ after)) in
    ap (grants_from total (suc room) at) (append_assoc (1 ∷ record_of grant) (entries grants) (gate ∷ after))
    ∙ one_more total (suc room) room at ((1 ∷ record_of grant) ++ rest) grant (omega arith) (gate_of_record at grant rest each.0 some)
    ∙ ap (λ (l : List ℕ). with_grant grant (grants_from total room (at + ENTRY_SIZE) l))
    (drop_at (1 ∷ record_of grant) rest ENTRY_SIZE (omega (arith, length-record_of grant)))
    ∙ ap (with_grant grant) (walk_there total room (at + ENTRY_SIZE) grants gate after each.1 shut (omega arith))
