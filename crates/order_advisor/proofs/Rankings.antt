-- The table over sets has the least cost of all rankings: each ranking costs at least so much, and some ranking costs just that.
--
-- A ranking gives each resource a number, no two the same one. For each k the resources of numbers below k are a set. Going from k to
-- k + 1 it stays, or gets one resource more, which costs what it adds as the last of the larger set. Conversely, the last resource
-- that a table names of a set gets the next number after a ranking of the others.
use Rattle.std.proofs.Common.{◌≡◌, ℕ, zero, suc, ◌+◌, ◌-◌, ◌^◌, ◌<◌, ◌≤◌, ◌==◌, ◌≢◌, Bool, true, false, cond, nat_lt}
use Rattle.std.proofs.Common.{◌⊎◌, inl, inr, List, get_or, ap, refl, sym, subst, ◌∙◌, ⊎_elim, arith}
use Rattle.std.proofs.Math.Nat.{mul-le-mul_right}
use Rattle.std.proofs.Math.Pow.{pow_mono}
use Rattle.std.proofs.lemmas.Bool.{cases_lt, cases_eq, lt-ltb, le-ltb, ltb-false, eq-eqb, ne_eqb}
use Rattle.std.proofs.lemmas.Nat.Bits.{bit_at_ones}
use Rattle.cell_base.specs.declared.cells.Cell.{Cell}
use Rattle.cell_base.specs.Masks.{has_bit}
use Rattle.order_advisor.specs.declared.weighing.Weighing.{Weighing}
use Rattle.order_advisor.specs.Sets.{added_weight, members_of, power_of_16, cost, last_cost, KnowsLeast}
use Rattle.policy_laws.proofs.Totals.{total, total-le}
use Rattle.order_advisor.proofs.Sums.{total-same, total_changed}
use Rattle.order_advisor.proofs.Masks.{mask_by, are_bits, mask_by-same, without, members_of-total}

module _ (n : ℕ) where
  -- the resources of numbers below k
  abbrev pub below : (ℕ → ℕ) → ℕ → ℕ
  below o k = mask_by (λ q. nat_lt (o q) k) n

  -- no two resources have one number
  abbrev pub IsRanking : (ℕ → ℕ) → Type 0
  IsRanking o = (q r : ℕ) → q < n → r < n → o q ≡ o r → q ≡ r

  pub below-bit : (o : ℕ → ℕ) (k q : ℕ) → q < n → has_bit (below o k) q ≡ nat_lt (o q) k
  below-bit o k q within = (are_bits (λ q. nat_lt (o q) k) n).bits q within

  -- how many they are
  pub size-members : (o : ℕ → ℕ) (k : ℕ) → members_of n (below o k) ≡ total (λ q. cond (nat_lt (o q) k) 1 0) n
  size-members o k =
      members_of-total n (below o k)
      ∙ total-same (λ q. cond (has_bit (below o k) q) 1 0) (λ q. cond (nat_lt (o q) k) 1 0) n (λ q h. ap (λ b. cond b 1 0)
      (below-bit o k q h))

  total-none : (f : ℕ → ℕ) → ((q : ℕ) → q < n → f q ≡ 0) → total f n ≡ 0
  total-none f each = total-same f (λ _. 0) n each ∙ zeros n
    where
      zeros : (m : ℕ) → total (λ _. 0) m ≡ 0
      zeros zero = refl
      zeros (suc m) = omega (arith, zeros m)

  -- no number is below 0
  nothing_below : (o v : ℕ → ℕ) → total (λ q. cond (nat_lt (o q) 0) (v q) 0) n ≡ 0
  nothing_below o v = total-none (λ q. cond (nat_lt (o q) 0) (v q) 0) (λ q h. ap (λ b. cond b (v q) 0) (le-ltb (o q) 0 (omega arith)))

  -- a sum over the resources of numbers below k, which a resource of number k adds to
  module _ (o : ℕ → ℕ) (ranking : IsRanking o) (f : ℕ → ℕ) where
    below_next : (q k : ℕ) → o q ≢ k → nat_lt (o q) (suc k) ≡ nat_lt (o q) k
    below_next q k other = ⊎_elim
        (λ (h : o q < k). lt-ltb (o q) (suc k) (omega arith) ∙ sym (lt-ltb (o q) k h))
        (λ (h : k ≤ o q). le-ltb (o q) (suc k) (omega (arith, h, other)) ∙ sym (le-ltb (o q) k h))
        (cases_lt (o q) k)

    pub sum-none : (k : ℕ) → ((q : ℕ) → q < n → o q ≢ k) → total (λ q. cond (nat_lt (o q) (suc k)) (f q) 0) n ≡ total (λ q. cond
        (nat_lt (o q) k) (f q) 0) n
    sum-none k none = total-same (λ q. cond (nat_lt (o q) (suc k)) (f q) 0) (λ q. cond (nat_lt (o q) k) (f q) 0) n
        (λ q h. ap (λ b. cond b (f q) 0) (below_next q k (none q h)))

    pub sum-next : (r : ℕ) → r < n
        → total (λ q. cond (nat_lt (o q) (suc (o r))) (f q) 0) n ≡ total (λ q. cond (nat_lt (o q) (o r)) (f q) 0) n + f r
    sum-next r within = total_changed (λ q. cond (nat_lt (o q) (o r)) (f q) 0) (λ q. cond (nat_lt (o q) (suc (o r))) (f q) 0) n r
        (f r) within
        (let here : cond (nat_lt (o r) (suc (o r))) (f r) 0 ≡ f r = ap (λ b. cond b (f r) 0) (lt-ltb (o r) (suc (o r)) (omega arith)) in
        let before : cond (nat_lt (o r) (o r)) (f r) 0 ≡ 0 = ap (λ b. cond b (f r) 0) (le-ltb (o r) (o r) (omega arith)) in
        omega (arith, here, before))
        (λ q h other. ap (λ b. cond b (f q) 0) (below_next q (o r) (λ e. other (ranking q r h within e))))

  -- some resource has the number k, or none has
  numbered : (o : ℕ → ℕ) (k m : ℕ) → ((r : ℕ) × (r < m) × (o r ≡ k)) ⊎ ((q : ℕ) → q < m → o q ≢ k)
  numbered o k zero = inr (λ q h. absurd (omega arith))
  numbered o k (suc m) = ⊎_elim
      (λ (e : o m ≡ k). inl (m, omega arith, e))
      (λ (other : o m ≢ k). ⊎_elim
      (λ (found : (r : ℕ) × (r < m) × (o r ≡ k)). inl (found.0, omega (arith, found.1), found.2))
      (λ (none : (q : ℕ) → q < m → o q ≢ k). inr (λ q h. ⊎_elim (λ (e : q ≡ m). λ same. other (sym (ap o e) ∙ same))
      (λ (before : q ≢ m). none q (omega (arith, before, h))) (cases_eq q m)))
      (numbered o k m))
      (cases_eq (o m) k)

  -- below k there are at most k
  pub size-le : (o : ℕ → ℕ) → IsRanking o → (k : ℕ) → total (λ q. cond (nat_lt (o q) k) 1 0) n ≤ k
  size-le o ranking zero = omega (arith, nothing_below o (λ _. 1))
  size-le o ranking (suc k) = at (numbered o k n) (size-le o ranking k)
    where
      at : ((r : ℕ) × (r < n) × (o r ≡ k)) ⊎ ((q : ℕ) → q < n → o q ≢ k) → total (λ q. cond (nat_lt (o q) k) 1 0) n ≤ k
          → total (λ q. cond (nat_lt (o q) (suc k)) 1 0) n ≤ suc k
      at (inl found) before =
          subst (λ j. total (λ q. cond (nat_lt (o q) j) 1 0) n ≤ j → total (λ q. cond (nat_lt (o q) (suc j)) 1 0) n ≤ suc j) found.2
          (λ before. omega (arith, before, sum-next o ranking (λ _. 1) found.0 found.1)) before
      at (inr none) before = omega (arith, before, sum-none o ranking (λ _. 1) k none)

  -- and the resource of the number k is not among them
  pub size-lt : (o : ℕ → ℕ) → IsRanking o → (r : ℕ) → r < n → total (λ q. cond (nat_lt (o q) (o r)) 1 0) n < n
  size-lt o ranking r within =
      omega (
        arith,
        sum-next o ranking (λ _. 1) r within,
        total-le (λ q. cond (nat_lt (o q) (suc (o r))) 1 0) (λ _. 1) n (λ q h. at_most_one (nat_lt (o q) (suc (o r)))),
        ones n,
      )
    where
      at_most_one : (b : Bool) → cond b 1 0 ≤ 1
      at_most_one true = omega arith
      at_most_one false = omega arith

      ones : (m : ℕ) → total (λ _. 1) m ≡ m
      ones zero = refl
      ones (suc m) = omega (arith, ones m)

  -- all resources
  pub below-all : (o : ℕ → ℕ) (k : ℕ) → ((q : ℕ) → q < n → o q < k) → below o k ≡ 2 ^ n - 1
  below-all o k all = sym (mask_by-same n (2 ^ n - 1) (λ q. nat_lt (o q) k) (omega (arith, pow_mono {i = 0} {j = n} (omega arith)))
      (λ r within. ap (λ x. x == 1) (bit_at_ones n r within) ∙ sym (lt-ltb (o r) k (all r within))))

-- one place more costs more
cost-le : (n r weight place more : ℕ) → place ≤ more → cost n r weight place ≤ cost n r weight more
cost-le n r weight place more at_most = omega (arith, mul-le-mul_right (power_of_16 (n - 1 - r)) at_most)

module _ (weighing : Weighing) (cell : Cell) (n : ℕ) where
  -- what resource q costs in a ranking at a place
  abbrev pub cost_in : (ℕ → ℕ) → (ℕ → ℕ) → ℕ → ℕ
  cost_in o place q = cost n q (added_weight weighing cell q (below n o (suc (o q)))) (place q)

  -- what the resources of numbers below k cost together
  abbrev pub cost_below : (ℕ → ℕ) → (ℕ → ℕ) → ℕ → ℕ
  cost_below o place k = total (λ q. cond (nat_lt (o q) k) (cost_in o place q) 0) n

  -- the places are no less than the number of the resources before
  abbrev pub AreAfter : (ℕ → ℕ) → (ℕ → ℕ) → Type 0
  AreAfter o place = (r : ℕ) → r < n → total (λ q. cond (nat_lt (o q) (o r)) 1 0) n ≤ place r

  module _ (costs : List ℕ) (known : KnowsLeast weighing cell n (2 ^ n) costs) where
    -- no ranking costs less
    module _ (o place : ℕ → ℕ) (ranking : IsRanking n o) (behind : AreAfter o place) where
      at_next : (r : ℕ) → r < n → get_or costs (below n o (o r)) 0 ≤ cost_below o place (o r)
          → get_or costs (below n o (suc (o r))) 0 ≤ cost_below o place (suc (o r))
      at_next r within before =
          let more : below n o (suc (o r)) ≡ below n o (o r) + 2 ^ r = sum-next n o ranking (λ q. 2 ^ q) r within in
          let rest : below n o (suc (o r)) - 2 ^ r ≡ below n o (o r) = omega (arith, more) in
          let step = known.least (below n o (suc (o r))) r (are_bits (λ q. nat_lt (o q) (suc (o r))) n).small within
          (below-bit n o (suc (o r)) r within ∙ lt-ltb (o r) (suc (o r)) (omega arith)) in
          let same = ap (λ set. get_or costs set 0) rest in
          let size = ap (members_of n) rest ∙ size-members n o (o r) in
          let last = cost-le n r (added_weight weighing cell r (below n o (suc (o r)))) (members_of n (below n o (suc (o r)) - 2 ^ r)) (place r)
          (omega (arith, size, behind r within)) in
          omega (arith, step, same, last, before, sum-next n o ranking (cost_in o place) r within)

      pub costs-le : (k : ℕ) → get_or costs (below n o k) 0 ≤ cost_below o place k
      costs-le zero =
          let none = nothing_below n o (λ q. 2 ^ q) in
          omega (arith, ap (λ set. get_or costs set 0) none, known.empty)
      costs-le (suc k) = at (numbered n o k n) (costs-le k)
        where
          at : ((r : ℕ) × (r < n) × (o r ≡ k)) ⊎ ((q : ℕ) → q < n → o q ≢ k) → get_or costs (below n o k) 0 ≤ cost_below o place k
              → get_or costs (below n o (suc k)) 0 ≤ cost_below o place (suc k)
          at (inl found) before =
              subst (λ j. get_or costs (below n o j) 0 ≤ cost_below o place j
              → get_or costs (below n o (suc j)) 0 ≤ cost_below o place (suc j))
              found.2 (at_next found.0 found.1) before
          at (inr none) before =
              omega (
                arith,
                before,
                ap (λ set. get_or costs set 0) (sum-none n o ranking (λ q. 2 ^ q) k none),
                sum-none n o ranking (cost_in o place) k none,
              )

    -- a ranking of the resources of a set, with the numbers below k, that costs what the table has
    pub record Attains (set : ℕ) (o : ℕ → ℕ) (k : ℕ) : Type 0 where
      pub is : below n o k ≡ set
      pub different : (q r : ℕ) → q < n → r < n → o q < k → o r < k → o q ≡ o r → q ≡ r
      pub size : total (λ q. cond (nat_lt (o q) k) 1 0) n ≡ k
      pub as_little : get_or costs set 0 ≡ cost_below o o k

    -- the last resource of a set gets the next number
    module _ (set r k : ℕ) (o : ℕ → ℕ) (small : set < 2 ^ n) (within : r < n) (stands : has_bit set r ≡ true) (rest : Attains
        (set - 2 ^ r) o k) where
      abbrev pub more : ℕ → ℕ
      more q = cond (q == r) k (cond (nat_lt (o q) k) (o q) (suc k))

      more-here : more r ≡ k
      more-here = ap (λ b. cond b k (cond (nat_lt (o r) k) (o r) (suc k))) (eq-eqb r r refl)

      more-low : (q : ℕ) → q ≢ r → o q < k → more q ≡ o q
      more-low q other low = ap (λ b. cond b k (cond (nat_lt (o q) k) (o q) (suc k))) (ne_eqb q r other)
          ∙ ap (λ b. cond b (o q) (suc k)) (lt-ltb (o q) k low)

      more-high : (q : ℕ) → q ≢ r → k ≤ o q → more q ≡ suc k
      more-high q other high = ap (λ b. cond b k (cond (nat_lt (o q) k) (o q) (suc k))) (ne_eqb q r other)
          ∙ ap (λ b. cond b (o q) (suc k)) (le-ltb (o q) k high)

      -- the resource has no number below k before
      out : k ≤ o r
      out = ltb-false (o r) k (sym (below-bit n o k r within) ∙ ap (λ m. has_bit m r) rest.is ∙ (without n set r small within stands).gone)

      test_below : (j : ℕ) → j ≤ k → (q : ℕ) → nat_lt (more q) j ≡ nat_lt (o q) j
      test_below j within_k q = ⊎_elim
          (λ (e : q ≡ r).
          let here : more q ≡ k = ap more e ∙ more-here in
          let there = ap o e in
          le-ltb (more q) j (omega (arith, here)) ∙ sym (le-ltb (o q) j (omega (arith, there, out))))
          (λ (other : q ≢ r). ⊎_elim
          (λ (low : o q < k). ap (λ x. nat_lt x j) (more-low q other low))
          (λ (high : k ≤ o q). le-ltb (more q) j (omega (arith, more-high q other high)) ∙ sym (le-ltb (o q) j (omega arith)))
          (cases_lt (o q) k))
          (cases_eq q r)

      test_next : (q : ℕ) → q ≢ r → nat_lt (more q) (suc k) ≡ nat_lt (o q) k
      test_next q other = ⊎_elim
          (λ (low : o q < k). lt-ltb (more q) (suc k) (omega (arith, more-low q other low)) ∙ sym (lt-ltb (o q) k low))
          (λ (high : k ≤ o q). le-ltb (more q) (suc k) (omega (arith, more-high q other high)) ∙ sym (le-ltb (o q) k high))
          (cases_lt (o q) k)

      test_here : nat_lt (more r) (suc k) ≡ true
      test_here = lt-ltb (more r) (suc k) (omega (arith, more-here))

      below-same : (j : ℕ) → j ≤ k → below n more j ≡ below n o j
      below-same j within_k = total-same (λ q. cond (nat_lt (more q) j) (2 ^ q) 0) (λ q. cond (nat_lt (o q) j) (2 ^ q) 0) n
          (λ q h. ap (λ b. cond b (2 ^ q) 0) (test_below j within_k q))

      more-is : below n more (suc k) ≡ set
      more-is = sym (mask_by-same n set (λ q. nat_lt (more q) (suc k)) small bits)
        where
          bits : (q : ℕ) → q < n → has_bit set q ≡ nat_lt (more q) (suc k)
          bits q h = ⊎_elim
              (λ (e : q ≡ r). subst (λ p. has_bit set p ≡ nat_lt (more p) (suc k)) (sym e) (stands ∙ sym test_here))
              (λ (other : q ≢ r).
              sym ((without n set r small within stands).others q h other)
              ∙ sym (ap (λ m. has_bit m q) rest.is)
              ∙ below-bit n o k q h
              ∙ sym (test_next q other))
              (cases_eq q r)

      more-sum : (f g : ℕ → ℕ) → ((q : ℕ) → q < n → q ≢ r → o q < k → g q ≡ f q)
          → total (λ q. cond (nat_lt (more q) (suc k)) (g q) 0) n ≡ total (λ q. cond (nat_lt (o q) k) (f q) 0) n + g r
      more-sum f g same = total_changed (λ q. cond (nat_lt (o q) k) (f q) 0) (λ q. cond (nat_lt (more q) (suc k)) (g q) 0) n r (g r) within
          (let before : cond (nat_lt (o r) k) (f r) 0 ≡ 0 = ap (λ b. cond b (f r) 0) (le-ltb (o r) k out) in
          let here : cond (nat_lt (more r) (suc k)) (g r) 0 ≡ g r = ap (λ b. cond b (g r) 0) test_here in
          omega (arith, before, here))
          (λ q h other. ap (λ b. cond b (g q) 0) (test_next q other) ∙ ⊎_elim
          (λ (low : o q < k). ap (λ v. cond (nat_lt (o q) k) v 0) (same q h other low))
          (λ (high : k ≤ o q). ap (λ b. cond b (g q) 0) (le-ltb (o q) k high) ∙ sym (ap (λ b. cond b (f q) 0) (le-ltb (o q) k high)))
          (cases_lt (o q) k))

      cost-same : (q : ℕ) → q < n → q ≢ r → o q < k → cost_in more more q ≡ cost_in o o q
      cost-same q h other low =
          let number = more-low q other low in
          ap (λ j. cost n q (added_weight weighing cell q (below n more (suc j))) j) number
          ∙ ap (λ set. cost n q (added_weight weighing cell q set) (o q)) (below-same (suc (o q)) (omega arith))

      number_low : (q : ℕ) → q ≢ r → more q < suc k → more q ≡ o q × (o q < k)
      number_low q other low = ⊎_elim
          (λ (h : o q < k). (more-low q other h, h))
          (λ (h : k ≤ o q). absurd (omega (arith, more-high q other h, low)))
          (cases_lt (o q) k)

      more-different : (p q : ℕ) → p < n → q < n → more p < suc k → more q < suc k → more p ≡ more q → p ≡ q
      more-different p q inside there low high same = ⊎_elim
          (λ (e : p ≡ r). ⊎_elim
          (λ (f : q ≡ r). e ∙ sym f)
          (λ (other : q ≢ r). let number = number_low q other high in
          absurd (omega (arith, number.0, number.1, same, ap more e, more-here)))
          (cases_eq q r))
          (λ (away : p ≢ r). let lower = number_low p away low in ⊎_elim
          (λ (f : q ≡ r). absurd (omega (arith, lower.0, lower.1, same, ap more f, more-here)))
          (λ (other : q ≢ r). let number = number_low q other high in
          rest.different p q inside there lower.1 number.1 (sym lower.0 ∙ same ∙ number.0))
          (cases_eq q r))
          (cases_eq p r)

      attains_more : get_or costs set 0 ≡ get_or costs (set - 2 ^ r) 0 + last_cost weighing cell n set r → Attains set more (suc k)
      attains_more last = record {
        is = more-is;
        different = more-different;
        size = more-sum (λ _. 1) (λ _. 1) (λ q h other low. refl) ∙ omega (arith, rest.size);
        as_little =
            let size : members_of n (set - 2 ^ r) ≡ k = ap (members_of n) (sym rest.is) ∙ size-members n o k ∙ rest.size in
            let here : cost_in more more r ≡ last_cost weighing cell n set r =
            ap (λ j. cost n r (added_weight weighing cell r (below n more (suc j))) j) more-here
            ∙ ap (λ s. cost n r (added_weight weighing cell r s) k) more-is
            ∙ ap (cost n r (added_weight weighing cell r set)) (sym size) in
            omega (arith, last, rest.as_little, more-sum (cost_in o o) (cost_in more more) cost-same, here);
      }

    pub attained : (fuel set : ℕ) → set < fuel → set < 2 ^ n → (o : ℕ → ℕ) × (k : ℕ) × Attains set o k
    attained zero set enough small = absurd (omega arith)
    attained (suc fuel) zero enough small = (
      λ q. q,
      0,
      record {
        is = nothing_below n (λ q. q) (λ q. 2 ^ q);
        different = λ q r h l low high e. e;
        size = nothing_below n (λ q. q) (λ q. 1);
        as_little = known.empty ∙ sym (nothing_below n (λ q. q) (cost_in (λ q. q) (λ q. q)));
      },
    )
    attained (suc fuel) (suc set) enough small =
        let last = known.some_last (suc set) (omega arith) small in
        let split = without n (suc set) last.0 small last.1 last.2 in
        let power : 1 ≤ 2 ^ last.0 = pow_mono {i = 0} {j = last.0} (omega arith) in
        let rest = attained fuel (suc set - 2 ^ last.0) (omega (arith, power)) split.small in (
          more (suc set) last.0 rest.1 rest.0 small last.1 last.2 rest.2,
          suc rest.1,
          attains_more (suc set) last.0 rest.1 rest.0 small last.1 last.2 rest.2 last.3,
        )
