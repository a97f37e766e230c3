-- Full resources, and counts that rise and fall by one.
use Rattle.std.proofs.Common.{◌≡◌, ℕ, ◌+◌, ◌*◌, ◌^◌, ◌%◌, ◌<◌, ◌≤◌, ◌==◌, Bool, true, false, ◌&&◌, List}
use Rattle.std.proofs.Common.{length, get_or, set, Some, None, nat_le, bit_and, bit_or, ap, subst, refl}
use Rattle.std.proofs.Common.{sym, arith, w64, ◌∙◌, ⊎_elim, length-set, get_or-set_same, get_or-set_other}
use Rattle.std.specs.Int.{bit_not, trailing_zeros}
use Rattle.std.proofs.lemmas.Bool.{le-leb, lt-leb, leb-false, cases_eq, and_parts}
use Rattle.std.proofs.lemmas.Nat.Bits.{bit_at-trailing_zeros}
use Rattle.cell_base.specs.Masks.{has_bit}
use Rattle.cell_base.proofs.Bits.{has_bit-and, has_bit-zero, has_bit-of_one, has_bit_set_same}
use Rattle.cell_base.proofs.Bits.{has_bit_set_other, has_bit_clear_same, has_bit_clear_other}
use Rattle.neighborhood_counts.specs.Counts.{Counted, is_full, first_full, IsCounted, IsFullMask, IsMaskOf}
use Rattle.neighborhood_counts.proofs.Numbers.{fails_of_none, none_of_fails, first_of_range}

-- no resource of a mask is full exactly where each of them takes one more
pub room_of_none : (held : Counted) (mask : ℕ) → first_full held mask ≡ None → (r : ℕ) → r < length held.counts → has_bit mask r ≡ true
    → get_or held.counts r 0 < get_or held.capacities r 0
room_of_none held mask e r within set_here =
    let fails : (has_bit mask r && is_full held r) ≡ false = fails_of_none _ 0 (length held.counts) e r (omega arith) (omega arith) in
    let open_here : is_full held r ≡ false = ap (λ b. b && is_full held r) (sym set_here) ∙ fails in
    omega (arith, leb-false _ _ open_here)

pub none_of_room : (held : Counted) (mask : ℕ)
    → ((r : ℕ) → r < length held.counts → has_bit mask r ≡ true → get_or held.counts r 0 < get_or held.capacities r 0)
    → first_full held mask ≡ None
none_of_room held mask room = none_of_fails _ 0 (length held.counts) (λ r from below. at r (omega arith) (has_bit mask r) refl)
  where
    at : (r : ℕ) → r < length held.counts → (b : Bool) → has_bit mask r ≡ b → (has_bit mask r && is_full held r) ≡ false
    at r within true e = ap (λ b. b && is_full held r) e ∙ lt-leb _ _ (room r within e)
    at r within false e = ap (λ b. b && is_full held r) e

module _ (counts capacities : List ℕ) (full r : ℕ) (sound : IsCounted (record { counts = counts; capacities = capacities }))
    (mask : IsFullMask (record { counts = counts; capacities = capacities }) full) (here : r < length counts) where
  few : r < 64
  few = omega (arith, sound.few)

  abbrev pub changed : ℕ → Counted
  changed n = record { counts = set counts r n; capacities = capacities }

  -- a count that stays at most the capacity
  pub counted : (n : ℕ) → n ≤ get_or capacities r 0 → IsCounted (changed n)
  counted n most = record {
    complete = length-set counts r n ∙ sound.complete;
    few = rw (length-set counts r n) sound.few;
    within = λ q below. ⊎_elim (same q) (other q (subst (λ l. q < l) (length-set counts r n) below)) (cases_eq q r);
  }
    where
      same : (q : ℕ) → q ≡ r → get_or (set counts r n) q 0 ≤ get_or capacities q 0
      same q e = subst (λ k. get_or (set counts r n) k 0 ≤ get_or capacities k 0) (sym e) (rw (get_or-set_same counts r n 0 here) most)

      other : (q : ℕ) → q < length counts → (q ≡ r → ⊥) → get_or (set counts r n) q 0 ≤ get_or capacities q 0
      other q below away = rw (get_or-set_other counts r q n 0 away) (sound.within q below)

  -- the mask, where bit r is right and the other bits are as before
  pub masked : (n next : ℕ) → has_bit next r ≡ nat_le (get_or capacities r 0) n
      → ((q : ℕ) → q < 64 → (q ≡ r → ⊥) → has_bit next q ≡ has_bit full q) → IsFullMask (changed n) next
  masked n next at_r others q below = ⊎_elim same other (cases_eq q r)
    where
      same : q ≡ r → has_bit next q ≡ is_full (changed n) q
      same e = subst (λ k. has_bit next k ≡ is_full (changed n) k) (sym e) (rw (get_or-set_same counts r n 0 here) at_r)

      within : q < length counts
      within = subst (λ l. q < l) (length-set counts r n) below

      other : (q ≡ r → ⊥) → has_bit next q ≡ is_full (changed n) q
      other away = rw (get_or-set_other counts r q n 0 away) (others q (omega (arith, within, sound.few)) away ∙ mask q within)

  -- the count rises to the capacity, or stays below it
  pub filled : (n : ℕ) → n ≡ get_or capacities r 0 → IsFullMask (changed n) (bit_or full (1 * 2 ^ r % 2 ^ 64))
  filled n e =
      masked n _ (has_bit_set_same full r few ∙ sym (le-leb _ _ (omega (arith, e)))) (λ q within away. has_bit_set_other full r q few away)

  pub still_open : (n : ℕ) → n < get_or capacities r 0 → get_or counts r 0 < get_or capacities r 0 → IsFullMask (changed n) full
  still_open n less was =
      masked n full (mask r here ∙ lt-leb _ _ was ∙ sym (lt-leb _ _ less)) (λ q within away. refl)

  -- the count falls below the capacity
  pub opened : (n : ℕ) → n < get_or capacities r 0 → IsFullMask (changed n) (bit_and full (bit_not w64 (1 * 2 ^ r % 2 ^ 64)))
  opened n less =
      masked n _ (has_bit_clear_same full r few ∙ sym (lt-leb _ _ less)) (λ q within away. has_bit_clear_other full r q few within away)

module _ (held : Counted) (full enter : ℕ) (mask : IsFullMask held full) (of : IsMaskOf held enter) where
  -- the bits that both masks have
  pub bits_of_full : (r : ℕ) → r < length held.counts → has_bit (bit_and enter full) r ≡ (has_bit enter r && is_full held r)
  bits_of_full r within = has_bit-and enter full r ∙ ap (λ b. has_bit enter r && b) (mask r within)

  pub none_full : bit_and enter full ≡ 0 → first_full held enter ≡ None
  none_full e =
      none_of_fails (λ r. has_bit enter r && is_full held r) 0 (length held.counts)
      (λ r from below. sym (bits_of_full r (omega arith)) ∙ ap (λ n. has_bit n r) e ∙ has_bit-zero r)

  pub lowest_full : 0 < bit_and enter full → bit_and enter full < 2 ^ 64
      → first_full held enter ≡ Some (trailing_zeros w64 (bit_and enter full))
  lowest_full some fits =
      let lowest = bit_at-trailing_zeros w64 (bit_and enter full) some fits in
      let r = trailing_zeros w64 (bit_and enter full) in
      let set_here : has_bit (bit_and enter full) r ≡ true = has_bit-of_one _ _ lowest.1 in
      let entered : has_bit enter r ≡ true = (and_parts _ _ (sym (has_bit-and enter full r) ∙ set_here)).0 in
      let within : r < length held.counts = of r entered in
      first_of_range (λ r. has_bit enter r && is_full held r) 0 (length held.counts) r (omega arith) (omega (arith, within))
      (sym (bits_of_full r within) ∙ set_here)
      (λ k from below. sym (bits_of_full k (omega (arith, below, within))) ∙ ap (λ n. n == 1) (lowest.2 k below))

-- the first n bits are those of the resources without a unit, and no other bit is set
pub record IsMarked (capacities : List ℕ) (n mask : ℕ) : Type 0 where
  pub so_far : (q : ℕ) → q < n → has_bit mask q ≡ nat_le (get_or capacities q 0) 0
  pub behind : (q : ℕ) → n ≤ q → has_bit mask q ≡ false

pub marked_more : (capacities : List ℕ) (n mask next : ℕ) → IsMarked capacities n mask → has_bit next n ≡ nat_le (get_or capacities n 0) 0
    → ((q : ℕ) → (q ≡ n → ⊥) → has_bit next q ≡ has_bit mask q) → IsMarked capacities (n + 1) next
marked_more capacities n mask next marked here others = record {
  so_far = λ q below. ⊎_elim (same q) (λ away. others q away ∙ marked.so_far q (omega (arith, below, away))) (cases_eq q n);
  behind = λ q above. others q (λ e. absurd (omega (arith, e, above))) ∙ marked.behind q (omega arith);
}
  where
    same : (q : ℕ) → q ≡ n → has_bit next q ≡ nat_le (get_or capacities q 0) 0
    same q e = subst (λ k. has_bit next k ≡ nat_le (get_or capacities k 0) 0) (sym e) here
