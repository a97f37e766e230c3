-- The steps of the search: members counted, costs bounded, and the cheapest last resource so far.
use Rattle.std.proofs.Common.{◌≡◌, ℕ, zero, suc, ◌+◌, ◌-◌, ◌*◌, ◌^◌, ◌<◌, ◌≤◌, ◌≢◌, true, false, cond, ◌⊎◌, List}
use Rattle.std.proofs.Common.{length, get_or, set as put, get_or-set_same, get_or-set_other, ap, refl, sym, subst}
use Rattle.std.proofs.Common.{◌∙◌, ⊎_elim, arith}
use Rattle.std.proofs.Math.Nat.{mul-le-mul_right}
use Rattle.std.proofs.Math.Pow.{pow_mono}
use Rattle.std.proofs.lemmas.Bool.{cases_eq}
use Rattle.cell_base.specs.declared.cells.Cell.{Cell}
use Rattle.cell_base.specs.Masks.{has_bit}
use Rattle.order_advisor.specs.declared.weighing.Weighing.{Weighing}
use Rattle.order_advisor.specs.Sets.{members_of, power_of_16, cost, most_cost, last_cost, KnowsLeast}
use Rattle.order_advisor.proofs.Masks.{mask_by, mask_by-same, members_of-total}
use Rattle.order_advisor.proofs.Digits.{power_of_16-le}

-- one resource more
pub members_of-next : (r set : ℕ) → members_of (r + 1) set ≡ members_of r set + cond (has_bit set r) 1 0
members_of-next r set =
    let next : r + 1 ≡ suc r = omega arith in
    ap (λ n. members_of n set) next ∙ members_of-total (suc r) set
    ∙ ap (λ m. m + cond (has_bit set r) 1 0) (sym (members_of-total r set))

pub cost-small : (n r weight place : ℕ) → weight ≤ 4096000 → place ≤ 16 → cost n r weight place ≤ most_cost n
cost-small n r weight place light near =
    omega (arith, mul-le-mul_right (power_of_16 n) light, mul-le-mul_right (power_of_16 (n - 1 - r)) near, power_of_16-le (n - 1 - r) n (omega arith))

-- a set that is not empty has a resource
pub some_bit : (n set : ℕ) → 0 < set → set < 2 ^ n → ((q : ℕ) → q < n → has_bit set q ≡ false) → ⊥
some_bit n set some small none =
    omega (arith, some, mask_by-same n set (λ _. false) small none, zeros n)
  where
    zeros : (m : ℕ) → mask_by (λ _. false) m ≡ 0
    zeros zero = refl
    zeros (suc m) = omega (arith, zeros m)

-- the table costs less below a set, and one resource more still fits
pub sum-small : (set before power unit less more : ℕ) → set ≡ before + power → 1 ≤ power → less ≤ before * unit → more ≤ unit
    → less + more ≤ set * unit
sum-small set before power unit less more is some low high =
    omega (arith, low, high, mul-le-mul_right unit some, ap (λ s. s * unit) is)

module _ (weighing : Weighing) (cell : Cell) (n : ℕ) (costs : List ℕ) (set : ℕ) where
  -- the cost of the set with a resource as the last
  abbrev pub with_last : ℕ → ℕ
  with_last q = get_or costs (set - 2 ^ q) 0 + last_cost weighing cell n set q

  -- some last resource makes the set cost so much
  pub record IsFound (least : ℕ) : Type 0 where
    pub last : ℕ
    pub within : last < n
    pub stands : has_bit set last ≡ true
    pub is : least ≡ with_last last
    pub small : least ≤ set * most_cost n

  -- of the resources below r none makes the set cost less, and where there is one, some makes it cost just that
  pub record IsLeastSoFar (limit r least : ℕ) : Type 0 where
    pub at_most : (q : ℕ) → q < r → has_bit set q ≡ true → least ≤ with_last q
    pub found : ((least ≡ limit) × ((q : ℕ) → q < r → has_bit set q ≡ false)) ⊎ IsFound least

  pub least-whole : (limit least : ℕ) → 0 < set → set < 2 ^ n → IsLeastSoFar limit n least → IsFound least
  least-whole limit least some small so_far = ⊎_elim
      (λ (none : (least ≡ limit) × ((q : ℕ) → q < n → has_bit set q ≡ false)). absurd (some_bit n set some small none.1))
      (λ found. found)
      so_far.found

-- one set more
pub KnowsLeast-put : (weighing : Weighing) (cell : Cell) (n at : ℕ) (costs : List ℕ) (least : ℕ) → 0 < at → at < 2 ^ n → at < length costs
    → KnowsLeast weighing cell n at costs
    → ((r : ℕ) → r < n → has_bit at r ≡ true → least ≤ with_last weighing cell n costs at r)
    → IsFound weighing cell n costs at least → KnowsLeast weighing cell n (at + 1) (put costs at least)
KnowsLeast-put weighing cell n at costs least some small inside known at_most found = record {
  empty = get_or-set_other costs at 0 least 0 (λ e. absurd (omega (arith, e, some))) ∙ known.empty;
  least = λ set r h within stands. ⊎_elim
      (λ (e : set ≡ at).
      let stood = sym (ap (λ s. has_bit s r) e) ∙ stands in
      subst (λ s. get_or (put costs at least) s 0 ≤ get_or (put costs at least) (s - 2 ^ r) 0 + last_cost weighing cell n s r) (sym e)
      (omega (arith, here, lower at r (omega arith), at_most r within stood)))
      (λ (other : set ≢ at).
      omega (
        arith,
        get_or-set_other costs at set least 0 other,
        lower set r (omega (arith, h)),
        known.least set r (omega
            (arith, h, other)) within stands,
      ))
      (cases_eq set at);
  some_last = λ set positive h. ⊎_elim
      (λ (e : set ≡ at).
      subst (λ s. (r : ℕ) × (r < n) × (has_bit s r ≡ true) × (get_or (put costs at least) s 0 ≡ get_or (put costs at least)
      (s - 2 ^ r) 0 + last_cost weighing cell n s r)) (sym e)
      (found.last, found.within, found.stands, omega (arith, here, found.is, lower at found.last (omega arith))))
      (λ (other : set ≢ at).
      let before = known.some_last set positive (omega (arith, h, other)) in (
        before.0,
        before.1,
        before.2,
        omega (
          arith,
          before.3,
          get_or-set_other costs at set least 0 other,
          lower set before.0 (omega
              (arith, h)),
        ),
      ))
      (cases_eq set at);
  small = λ set h. ⊎_elim
      (λ (e : set ≡ at). subst (λ s. get_or (put costs at least) s 0 ≤ s * most_cost n) (sym e) (omega (arith, here, found.small)))
      (λ (other : set ≢ at). omega (arith, get_or-set_other costs at set least 0 other, known.small set (omega (arith, h, other))))
      (cases_eq set at);
}
  where
    here : get_or (put costs at least) at 0 ≡ least
    here = get_or-set_same costs at least 0 inside

    lower : (set r : ℕ) → set ≤ at → get_or (put costs at least) (set - 2 ^ r) 0 ≡ get_or costs (set - 2 ^ r) 0
    lower set r below =
        let power : 1 ≤ 2 ^ r = pow_mono {i = 0} {j = r} (omega arith) in
        get_or-set_other costs at (set - 2 ^ r) least 0 (λ e. absurd (omega (arith, e, some, power, below)))
