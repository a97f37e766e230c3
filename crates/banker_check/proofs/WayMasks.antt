-- Ways step by step, as lists and as masks, and the test of a way against the resources that are full.
use Rattle.std.proofs.Common.{◌≡◌, ℕ, suc, zero, ◌+◌, ◌*◌, ◌^◌, ◌%◌, ◌<◌, ◌≤◌, ◌==◌, Bool, true, false, not, ◌||◌, ◌&&◌, nat_lt, nat_le}
use Rattle.std.proofs.Common.{cond, List, [], ◌∷◌, length, map, drop, All, Option, Some, None, get_or, bit_and, bit_or, w64, ap, refl}
use Rattle.std.proofs.Common.{sym, subst, ⊎_elim, arith, ◌∙◌}
use Rattle.std.specs.Int.{bit_not, trailing_zeros}
use Rattle.std.specs.List.{list_any}
use Rattle.std.proofs.lemmas.Bool.{eqb-true, eq-eqb, ne_eqb, lt-ltb, ltb-true, le-leb, lt-leb, leb-true, leb-false, cases_eq, cases_lt}
use Rattle.std.proofs.lemmas.Bool.{or_left, and_parts, and_from, both_ways}
use Rattle.std.proofs.lemmas.List.Elements.{All-nil, All-cons, All-contains}
use Rattle.std.proofs.lemmas.Nat.Bits.{bit_at-trailing_zeros}
use Rattle.cell_base.specs.declared.cells.Cell.{Cell}
use Rattle.cell_base.specs.declared.requests.Part.{Part}
use Rattle.cell_base.specs.Masks.{has_bit}
use Rattle.cell_base.specs.Stages.{Stage, IsStage, stage_of, places_left, successors, successor, resource_at, capacity_of}
use Rattle.cell_base.specs.Stages.{first_branch_path}
use Rattle.cell_base.specs.Plans.{resource_of_part}
use Rattle.cell_base.specs.Fits.{CellFits}
use Rattle.cell_base.proofs.Bits.{has_bit-and, has_bit-or, has_bit-zero, has_bit-of_one, has_bit_set_same, has_bit_set_other}
use Rattle.cell_base.proofs.Bits.{has_bit_clear_same, has_bit_clear_other}
use Rattle.policy_laws.proofs.Lists.{Contains-slice_get, list_any-found, list_any-Contains, same_from_both}
use Rattle.policy_laws.proofs.Stages.{successor_stage, places_left_fall, resource_within}
use Rattle.policy_laws.proofs.Work.{first_branch_path-next}
use Rattle.banker_check.specs.declared.fullness.Fullness.{Fullness}
use Rattle.banker_check.specs.Ways.{way_from, way, stands_on, held}
use Rattle.banker_check.specs.Orders.{is_within_units}
use Rattle.banker_check.specs.Counts.{is_full_beside, is_held_up_by}
use Rattle.banker_check.specs.WayMasks.{IsWayMask, HoldBeyond, AreFull}
use Rattle.banker_check.proofs.Resources.{within-test, over-test}

module _ (cell : Cell) (fits : CellFits cell) where
  pub way-last : (s : Stage) → IsStage cell s → successor cell s 0 ≡ None → way_from cell s ≡ []
  way-last s stage e = rw (first_branch_path-next cell fits s stage, e) refl

  pub way-next : (s t : Stage) → IsStage cell s → successor cell s 0 ≡ Some t → way_from cell s ≡ resource_at cell t ∷ way_from cell t
  way-next s t stage e =
      let onward = first_branch_path-next cell fits t (successor_stage cell fits s t (Contains-slice_get (successors cell s) 0 t e)) in
      let behind : drop 1 (first_branch_path cell s) ≡ first_branch_path cell t = rw (first_branch_path-next cell fits s stage, e) in
      ap (map (resource_at cell)) (behind ∙ onward)
      ∙ ap (λ rest. resource_at cell t ∷ map (resource_at cell) (drop 1 rest)) (sym onward)

  -- a way has resources of the cell alone
  way-within : (n : ℕ) (s : Stage) → places_left cell s ≤ n → IsStage cell s → All (λ r. r < length cell.resources) (way_from cell s)
  way-within zero s few stage = absurd (omega (arith, few, stage))
  way-within (suc n) s few stage = at (successor cell s 0) refl (λ t fewer next. way-within n t fewer next)
    where
      at : (o : Option Stage) → successor cell s 0 ≡ o
          → ((t : Stage) → places_left cell t ≤ n → IsStage cell t → All (λ r. r < length cell.resources) (way_from cell t))
          → All (λ r. r < length cell.resources) (way_from cell s)
      at None e later = subst (All (λ r. r < length cell.resources)) (sym (way-last s stage e)) (All-nil (λ r. r < length cell.resources))
      at (Some t) e later =
          let c = Contains-slice_get (successors cell s) 0 t e in
          let next = successor_stage cell fits s t c in
          subst (All (λ r. r < length cell.resources)) (sym (way-next s t stage e))
          (All-cons (λ r. r < length cell.resources) (resource_at cell t) (way_from cell t) (resource_within cell fits t next)
          (later t (omega (arith, few, places_left_fall cell fits s t c)) next))

  -- the mask of the way of the successor, and the successor's resource
  pub way_mask-next : (s t : Stage) (on mask : ℕ) → IsStage cell s → successor cell s 0 ≡ Some t → on ≡ resource_at cell t → on < 64
      → IsWayMask cell t mask → IsWayMask cell s (bit_or mask (1 * 2 ^ on % 2 ^ 64))
  way_mask-next s t on mask stage e here fit known r =
      ⊎_elim same other (cases_eq r on) ∙ sym (ap (list_any (λ q. q == r)) (way-next s t stage e))
    where
      same : r ≡ on → has_bit (bit_or mask (1 * 2 ^ on % 2 ^ 64)) r ≡ list_any (λ q. q == r) (resource_at cell t ∷ way_from cell t)
      same e = ap (has_bit (bit_or mask (1 * 2 ^ on % 2 ^ 64))) e ∙ has_bit_set_same mask on fit
          ∙ sym (or_left _ _ (eq-eqb _ _ (sym here ∙ sym e)))

      other : (r ≡ on → ⊥) → has_bit (bit_or mask (1 * 2 ^ on % 2 ^ 64)) r ≡ list_any (λ q. q == r) (resource_at cell t ∷ way_from cell t)
      other away = has_bit_set_other mask on r fit away ∙ known r
          ∙ ap (λ b. b || list_any (λ q. q == r) (way_from cell t)) (sym (ne_eqb _ _ (λ e. away (sym e ∙ sym here))))

-- who is full beyond its units is full
either : (units count : ℕ) → (nat_le (units + 0) count || nat_le (units + 1) count) ≡ nat_le (units + 0) count
either units count =
    ⊎_elim
    (λ (less : count < units). ap (λ b. nat_le (units + 0) count || b) (lt-leb (units + 1) count (omega (arith, less)))
    ∙ ap (λ b. b || false) (lt-leb (units + 0) count (omega (arith, less))) ∙ sym (lt-leb (units + 0) count (omega (arith, less))))
    (λ (full : units ≤ count). or_left _ _ (le-leb (units + 0) count (omega (arith, full)))
    ∙ sym (le-leb (units + 0) count (omega (arith, full))))
    (cases_lt count units)

-- the test of a part by masks
module _ (cell : Cell) (fits : CellFits cell) (part : Part) (stage : IsStage cell (stage_of part)) (counts : List ℕ) (masks : Fullness)
    (are : AreFull cell counts masks) (on : ℕ) (here : on ≡ resource_of_part cell part) where
  -- the resources that bar the way of the part
  abbrev barred : ℕ
  barred = bit_or (bit_and masks.full (bit_not w64 (1 * 2 ^ on % 2 ^ 64))) masks.over

  own_within : on < 64
  own_within = omega (arith, here, resource_within cell fits (stage_of part) stage, fits.resource_count.1)

  barred_bit : (r : ℕ) → r < length cell.resources → has_bit barred r ≡ is_full_beside cell counts part r
  barred_bit r within =
      has_bit-or (bit_and masks.full (bit_not w64 (1 * 2 ^ on % 2 ^ 64))) masks.over r ∙ ⊎_elim same other (cases_eq r on)
    where
      is_full : has_bit masks.full r ≡ nat_le (capacity_of cell r + 0) (get_or counts r 0)
      is_full = are.full r ∙ ap (λ b. b && nat_le (capacity_of cell r + 0) (get_or counts r 0)) (lt-ltb _ _ within)

      is_over : has_bit masks.over r ≡ nat_le (capacity_of cell r + 1) (get_or counts r 0)
      is_over = are.over r ∙ ap (λ b. b && nat_le (capacity_of cell r + 1) (get_or counts r 0)) (lt-ltb _ _ within)

      beside : (b : Bool) → stands_on cell r part ≡ b
          → nat_le (capacity_of cell r + cond b 1 0) (get_or counts r 0) ≡ is_full_beside cell counts part r
      beside b e = ap (λ b. nat_le (capacity_of cell r + cond b 1 0) (get_or counts r 0)) (sym e)

      same : r ≡ on → (has_bit (bit_and masks.full (bit_not w64 (1 * 2 ^ on % 2 ^ 64))) r || has_bit masks.over r)
          ≡ is_full_beside cell counts part r
      same e =
          ap (λ b. b || has_bit masks.over r)
          (ap (has_bit (bit_and masks.full (bit_not w64 (1 * 2 ^ on % 2 ^ 64)))) e ∙ has_bit_clear_same masks.full on own_within)
          ∙ is_over ∙ beside true (eq-eqb _ _ (sym here ∙ sym e))

      other : (r ≡ on → ⊥) → (has_bit (bit_and masks.full (bit_not w64 (1 * 2 ^ on % 2 ^ 64))) r || has_bit masks.over r)
          ≡ is_full_beside cell counts part r
      other away =
          ap (λ b. b || has_bit masks.over r)
          (has_bit_clear_other masks.full on r own_within (omega (arith, within, fits.resource_count.1)) away ∙ is_full)
          ∙ ap (λ b. nat_le (capacity_of cell r + 0) (get_or counts r 0) || b) is_over
          ∙ either (capacity_of cell r) (get_or counts r 0)
          ∙ beside false (ne_eqb _ _ (λ e. away (sym e ∙ sym here)))

  pub held_up-masks : (mask : ℕ) → bit_and mask barred < 2 ^ 64 → IsWayMask cell (stage_of part) mask
      → not (bit_and mask barred == 0) ≡ is_held_up_by cell counts part
  held_up-masks mask small known = same_from_both _ _ (λ e. there (bit_and mask barred) refl e) back
    where
      there : (m : ℕ) → bit_and mask barred ≡ m → not (m == 0) ≡ true → is_held_up_by cell counts part ≡ true
      there zero e some = absurd (both_ways (not (0 == 0)) refl some)
      there (suc m) e some =
          let lowest = bit_at-trailing_zeros w64 (bit_and mask barred) (omega (arith, e)) small in
          let r = trailing_zeros w64 (bit_and mask barred) in
          let both = and_parts _ _ (sym (has_bit-and mask barred r) ∙ has_bit-of_one _ _ lowest.1) in
          let found = list_any-found (λ q. q == r) (way cell part) (sym (known r) ∙ both.0) in
          let within = All-contains (λ r. r < length cell.resources) (way cell part) found.0
          (way-within cell fits (places_left cell (stage_of part)) (stage_of part) (omega arith) stage) found.1 in
          list_any-Contains (is_full_beside cell counts part) (way cell part) found.0 found.1
          (sym (barred_bit found.0 within) ∙ ap (has_bit barred) (eqb-true _ _ found.2) ∙ both.1)

      back : is_held_up_by cell counts part ≡ true → not (bit_and mask barred == 0) ≡ true
      back e =
          let found = list_any-found (is_full_beside cell counts part) (way cell part) e in
          let within = All-contains (λ r. r < length cell.resources) (way cell part) found.0
          (way-within cell fits (places_left cell (stage_of part)) (stage_of part) (omega arith) stage) found.1 in
          let set_here : has_bit (bit_and mask barred) found.0 ≡ true =
          has_bit-and mask barred found.0
          ∙ and_from _ _ (known found.0 ∙ list_any-Contains (λ q. q == found.0) (way cell part) found.0 found.1 (eq-eqb _ _ refl))
          (barred_bit found.0 within ∙ found.2) in
          some (bit_and mask barred) refl set_here
        where
          some : (m : ℕ) → bit_and mask barred ≡ m → has_bit m (list_any-found (is_full_beside cell counts part) (way cell part) e).0 ≡ true
              → not (m == 0) ≡ true
          some zero f h = absurd (both_ways _ (has_bit-zero (list_any-found (is_full_beside cell counts part) (way cell part) e).0) h)
          some (suc m) f h = ap not (ne_eqb (suc m) 0 (λ e. absurd (omega (arith, e))))

-- no bit is set exactly where no resource holds more parts than it has units
pub none_over : (cell : Cell) (parts : List Part) (counts : List ℕ) (mask : ℕ) → mask < 2 ^ 64 → HoldBeyond cell counts 1 mask
    → ((r : ℕ) → get_or counts r 0 ≡ held cell parts r) → (mask == 0) ≡ is_within_units cell parts
none_over cell parts counts mask small known are = same_from_both _ _ there (λ e. back mask refl e)
  where
    there : (mask == 0) ≡ true → is_within_units cell parts ≡ true
    there e = within-test cell parts (λ r within.
        let none : (nat_lt r (length cell.resources) && nat_le (capacity_of cell r + 1) (get_or counts r 0)) ≡ false =
        sym (known r) ∙ ap (λ m. has_bit m r) (eqb-true _ _ e) ∙ has_bit-zero r in
        omega (
          arith,
          leb-false (capacity_of cell r + 1) (get_or counts r 0)
              (sym (ap (λ b. b && nat_le (capacity_of cell r + 1) (get_or counts r 0)) (lt-ltb _ _ within)) ∙ none),
          are r,
        ))

    back : (m : ℕ) → mask ≡ m → is_within_units cell parts ≡ true → (m == 0) ≡ true
    back zero e within = refl
    back (suc m) e within =
        let lowest = bit_at-trailing_zeros w64 mask (omega (arith, e)) small in
        let r = trailing_zeros w64 mask in
        let both = and_parts _ _ (sym (known r) ∙ has_bit-of_one _ _ lowest.1) in
        absurd (both_ways (is_within_units cell parts)
        (over-test cell parts r (ltb-true _ _ both.0) (omega (arith, leb-true _ _ both.1, are r))) within)
