-- The orders that are read off the least cost are the best.
--
-- A list of orders without ties is a ranking, and its cost is a number: the weight, and after it the places as digits. Orders with ties
-- are broken by the numbers of the resources, which leads to no stage more. So the least cost has the least weight; and of two
-- numbers with the same weight the lesser one has the list that comes before.
use Rattle.std.proofs.Common.{◌≡◌, ℕ, zero, suc, ◌+◌, ◌-◌, ◌*◌, ◌/◌, ◌^◌, ◌<◌, ◌≤◌, Bool, true, false, cond, nat_lt}
use Rattle.std.proofs.Common.{nat_eq, ◌%◌, List, length, get_or, map, ap, refl, sym, subst, ◌∙◌, ⊎_elim, arith}
use Rattle.std.specs.List.{range_with_len}
use Rattle.std.proofs.Math.Nat.{mul-le-mul_right}
use Rattle.std.proofs.Math.Pow.{pow_mono}
use Rattle.std.proofs.lemmas.Bool.{cases_lt, lt-ltb, ltb-true}
use Rattle.std.proofs.lemmas.List.{get_or_past}
use Rattle.std.proofs.lemmas.List.FromFn.{length-map-range_with_len, get_or-map-range_with_len}
use Rattle.std.proofs.lemmas.Nat.{same_from_place}
use Rattle.std.proofs.lemmas.Nat.Bits.{bit_at_ones}
use Rattle.cell_base.specs.declared.cells.Cell.{Cell}
use Rattle.cell_base.specs.Masks.{has_bit}
use Rattle.order_advisor.specs.declared.advice.Advice.{Advice}
use Rattle.order_advisor.specs.Advices.{IsBest}
use Rattle.order_advisor.specs.declared.weighing.Weighing.{Weighing}
use Rattle.order_advisor.specs.Orders.{weight, own_weight, weight_under, unit_weight, IsOrderList, ComesBefore}
use Rattle.order_advisor.specs.Sets.{first_orders, added_weight, power_of_16, order_in, KnowsLeast}
use Rattle.policy_laws.proofs.Totals.{total, total-le}
use Rattle.order_advisor.proofs.Sums.{total-same, total-add, total-times, total-at}
use Rattle.order_advisor.proofs.Digits.{numeral, numeral-total, numeral-less, numeral-same, numeral_digit, numeral_cut}
use Rattle.order_advisor.proofs.Ties.{members_no_more, weight-total}
use Rattle.order_advisor.proofs.Rankings.{below, below-bit, below-all, IsRanking, size-le, size-lt, cost_in}
use Rattle.order_advisor.proofs.Rankings.{cost_below, costs-le, attained, Attains}

module _ (weighing : Weighing) (cell : Cell) (n : ℕ) (is_count : n ≡ length cell.resources) where
  -- what the stages weigh that lead to resource r in a ranking
  abbrev adds : (ℕ → ℕ) → ℕ → ℕ
  adds o r = added_weight weighing cell r (below n o (suc (o r)))

  first_at : (set q : ℕ) → q < n → get_or (first_orders cell set) q 0 ≡ cond (has_bit set q) 0 1
  first_at set q within =
      get_or-map-range_with_len (λ q. cond (has_bit set q) 0 1) 0 (length cell.resources) q q 0 (omega arith) (omega arith)

  first-here : (o : ℕ → ℕ) (r q : ℕ) → q < n → o q ≤ o r → get_or (first_orders cell (below n o (suc (o r)))) q 0 ≡ 0
  first-here o r q within at_most =
      first_at (below n o (suc (o r))) q within
      ∙ ap (λ b. cond b 0 1) (below-bit n o (suc (o r)) q within ∙ lt-ltb (o q) (suc (o r)) (omega arith))

  first-less : (o : ℕ → ℕ) (r q : ℕ) → q < n → get_or (first_orders cell (below n o (suc (o r)))) q 0 ≤ 0 → o q ≤ o r
  first-less o r q within none = at (nat_lt (o q) (suc (o r))) refl
    where
      at : (b : Bool) → nat_lt (o q) (suc (o r)) ≡ b → o q ≤ o r
      at true e = omega (arith, ltb-true (o q) (suc (o r)) e)
      at false e =
          let behind : get_or (first_orders cell (below n o (suc (o r)))) q 0 ≡ 1 =
          first_at (below n o (suc (o r))) q within ∙ ap (λ b. cond b 0 1) (below-bit n o (suc (o r)) q within ∙ e) in
          absurd (omega (arith, none, behind))

  -- no more than under orders that allow as much, and no less than under orders that allow no more
  adds-le : (o : ℕ → ℕ) (others : List ℕ) (r : ℕ) → r < n → ((q : ℕ) → q < n → o q ≤ o r → get_or others q 0 ≤ get_or others r 0)
      → adds o r ≤ weight_under weighing cell others r
  adds-le o others r within allows =
      mul-le-mul_right (unit_weight weighing cell r)
      (members_no_more cell r (omega arith) (first_orders cell (below n o (suc (o r)))) others
      (λ q h at_most. allows q (omega arith) (first-less o r q (omega arith) (omega (
        arith,
        at_most,
        first-here o r r within
            (omega arith),
      )))))

  adds-ge : (o : ℕ → ℕ) (others : List ℕ) (r : ℕ) → r < n → ((q : ℕ) → q < n → get_or others q 0 ≤ get_or others r 0 → o q ≤ o r)
      → weight_under weighing cell others r ≤ adds o r
  adds-ge o others r within allows =
      mul-le-mul_right (unit_weight weighing cell r)
      (members_no_more cell r (omega arith) others (first_orders cell (below n o (suc (o r))))
      (λ q h at_most. omega (arith, first-here o r q (omega arith) (allows q (omega arith) at_most))))

  weight-of : (others : List ℕ) → weight weighing cell others ≡ total (weight_under weighing cell others) n
  weight-of others = weight-total cell weighing others ∙ ap (total (weight_under weighing cell others)) (sym is_count)

  -- the weight of a list that ranks as o does
  weight-ranked : (o : ℕ → ℕ) (others : List ℕ) → ((q r : ℕ) → q < n → r < n → o q ≤ o r → get_or others q 0 ≤ get_or others r 0)
      → ((q r : ℕ) → q < n → r < n → get_or others q 0 ≤ get_or others r 0 → o q ≤ o r) → weight weighing cell others ≡ total (adds o) n
  weight-ranked o others there back =
      weight-of others
      ∙ total-same (weight_under weighing cell others) (adds o) n
      (λ r h. let least = adds-le o others r h (λ q inside. there q r inside h) in
      let most = adds-ge o others r h (λ q inside. back q r inside h) in
      omega (arith, least, most))

  -- the cost of a whole ranking is a number with the places as digits
  cost-whole : (o place : ℕ → ℕ) (k : ℕ) → ((q : ℕ) → q < n → o q < k) → cost_below weighing cell n o place k ≡ numeral (total (adds o) n) place n
  cost-whole o place k all =
      let none : n - n ≡ 0 = omega arith in
      let unit : numeral (total (adds o) n) place n * power_of_16 (n - n) ≡ numeral (total (adds o) n) place n * 1 = ap (λ j. numeral (total
      (adds o) n) place n * power_of_16 j) none in
      let sum = numeral-total (total (adds o) n) place n n (omega arith) in
      let weights = total-times (adds o) (power_of_16 n) n in
      total-same (λ q. cond (nat_lt (o q) k) (cost_in weighing cell n o place q) 0) (cost_in weighing cell n o place) n
      (λ q h. ap (λ b. cond b (cost_in weighing cell n o place q) 0) (lt-ltb (o q) k (all q h)))
      ∙ total-add (λ q. adds o q * power_of_16 n) (λ q. place q * power_of_16 (n - 1 - q)) n
      ∙ omega (arith, unit, sum, weights)

  module _ (few : n ≤ 16) (costs : List ℕ) (known : KnowsLeast weighing cell n (2 ^ n) costs) where
    abbrev pub least_cost : ℕ
    least_cost = get_or costs (2 ^ n - 1) 0

    -- no ranking costs less than the whole set
    least-le : (o place : ℕ → ℕ) → IsRanking n o → ((r : ℕ) → r < n → total (λ q. cond (nat_lt (o q) (o r)) 1 0) n ≤ place r) → (k : ℕ)
        → ((q : ℕ) → q < n → o q < k) → least_cost ≤ numeral (total (adds o) n) place n
    least-le o place ranking behind k all =
        omega (
          arith,
          costs-le weighing cell n costs known o place ranking behind k,
          ap (λ set. get_or costs set 0)
              (below-all n o k all),
          cost-whole o place k all,
        )

    -- the ranking that has this cost
    some_ranking : (o : ℕ → ℕ) × (k : ℕ) × Attains weighing cell n costs known (2 ^ n - 1) o k
    some_ranking = attained weighing cell n costs known (2 ^ n) (2 ^ n - 1) below_power below_power
      where
        below_power : 2 ^ n - 1 < 2 ^ n
        below_power = omega (arith, pow_mono {i = 0} {j = n} (omega arith))

    module _ (o : ℕ → ℕ) (k : ℕ) (best : Attains weighing cell n costs known (2 ^ n - 1) o k) where
      numbered : (q : ℕ) → q < n → o q < k
      numbered q within = ltb-true (o q) k
          (sym (below-bit n o k q within) ∙ ap (λ m. has_bit m q) best.is ∙ ap (λ x. nat_eq x 1) (bit_at_ones n q within))

      all_numbers : k ≡ n
      all_numbers =
          sym best.size
          ∙ total-same (λ q. cond (nat_lt (o q) k) 1 0) (λ _. 1) n (λ q h. ap (λ b. cond b 1 0) (lt-ltb (o q) k (numbered q h)))
          ∙ ones n
        where
          ones : (m : ℕ) → total (λ _. 1) m ≡ m
          ones zero = refl
          ones (suc m) = omega (arith, ones m)

      place-small : (q : ℕ) → q < n → o q < 16
      place-small q within = omega (arith, numbered q within, all_numbers)

      ranking : IsRanking n o
      ranking q r h within = best.different q r h within (numbered q h) (numbered r within)

      is_numeral : least_cost ≡ numeral (total (adds o) n) o n
      is_numeral = best.as_little ∙ cost-whole o o k numbered

      module _ (orders : List ℕ) (read : orders ≡ map (order_in n least_cost) (range_with_len 0 n)) where
        order-at : (q : ℕ) → q < n → get_or orders q 0 ≡ o q + 1
        order-at q within =
            ap (λ (xs : List ℕ). get_or xs q 0) read
            ∙ get_or-map-range_with_len (order_in n least_cost) 0 n q q 0 within (omega arith)
            ∙ ap (λ x. x + 1) (ap (λ c. c / power_of_16 (n - 1 - q) % 16) is_numeral ∙ numeral_digit (total (adds o) n) o n q place-small within)

        length-orders : length orders ≡ n
        length-orders = ap length read ∙ length-map-range_with_len (order_in n least_cost) 0 n

        pub numbers : IsOrderList n orders
        numbers = record {
          numbers = length-orders;
          within = λ r h. (omega (arith, order-at r h), omega (arith, order-at r h, numbered r h, all_numbers));
          different = λ q r h within same. ranking q r h within (omega (arith, order-at q h, order-at r within, same));
        }

        weight-adds : weight weighing cell orders ≡ total (adds o) n
        weight-adds = weight-ranked o orders
            (λ q r h within at_most. omega (arith, order-at q h, order-at r within, at_most))
            (λ q r h within at_most. omega (arith, order-at q h, order-at r within, at_most))

        pub weighs : least_cost / power_of_16 n ≡ weight weighing cell orders
        weighs =
            let whole : n ≡ 0 + n = omega arith in
            ap (λ c. c / power_of_16 n) is_numeral
            ∙ ap (λ m. numeral (total (adds o) n) o m / power_of_16 n) whole
            ∙ numeral_cut (total (adds o) n) o 0 n (λ q h. place-small q (omega arith))
            ∙ sym weight-adds

        -- orders with ties are ranked by the numbers of the resources
        module _ (others : List ℕ) where
          abbrev broken : ℕ → ℕ
          broken q = get_or others q 0 * n + q

          broken-ranking : IsRanking n broken
          broken-ranking q r h within same = (same_from_place (get_or others q 0) q (get_or others r 0) r n h within same).1

          broken-le : (q r : ℕ) → q < n → r < n → broken q ≤ broken r → get_or others q 0 ≤ get_or others r 0
          broken-le q r h within at_most = ⊎_elim
              (λ (less : get_or others r 0 < get_or others q 0).
              absurd (omega (arith, mul-le-mul_right n less, at_most, h, within)))
              (λ h. h)
              (cases_lt (get_or others r 0) (get_or others q 0))

          lesser_weight : total (adds broken) n ≤ weight weighing cell others
          lesser_weight =
              omega (
                arith,
                weight-of others,
                total-le (adds broken) (weight_under weighing cell others) n (λ r h. adds-le broken others r h
                    (λ q inside. broken-le q r inside h)),
              )

          abbrev sizes : ℕ → ℕ
          sizes r = total (λ q. cond (nat_lt (broken q) (broken r)) 1 0) n

          below_broken : least_cost ≤ numeral (total (adds broken) n) sizes n
          below_broken = least-le broken sizes broken-ranking (λ r h. omega arith) (suc (total broken n))
              (λ q h. omega (arith, total-at broken n q h))

          pub least : least_cost / power_of_16 n ≤ weight weighing cell others
          least = ⊎_elim
              (λ (less : total (adds broken) n < total (adds o) n).
              let lower = numeral-less (total (adds broken) n) (total (adds o) n) sizes o 0 n
              (λ r h. omega (arith, size-lt n broken broken-ranking r h)) (omega arith) less in
              absurd (omega (arith, lower, below_broken, is_numeral)))
              (λ (h : total (adds o) n ≤ total (adds broken) n). omega (arith, weighs, weight-adds, h, lesser_weight))
              (cases_lt (total (adds broken) n) (total (adds o) n))

        -- of the lists that weigh as little none comes before
        module _ (others : List ℕ) (listed : IsOrderList n others) (as_little : weight weighing cell others ≡ least_cost / power_of_16 n) where
          abbrev other_place : ℕ → ℕ
          other_place q = get_or others q 0 - 1

          other-ranking : IsRanking n other_place
          other-ranking q r h within same =
              listed.different q r h within (omega (arith, same, (listed.within q h).0, (listed.within r within).0))

          same_weight : total (adds other_place) n ≡ total (adds o) n
          same_weight =
              sym (weight-ranked other_place others
              (λ q r h within at_most. omega (arith, at_most, (listed.within q h).0, (listed.within r within).0))
              (λ q r h within at_most. omega (arith, at_most)))
              ∙ as_little ∙ weighs ∙ weight-adds

          below_other : least_cost ≤ numeral (total (adds other_place) n) other_place n
          below_other = least-le other_place other_place other-ranking (λ r h. size-le n other_place other-ranking (other_place r)) n
              (λ q h. omega (arith, (listed.within q h).0, (listed.within q h).1))

          pub first : ¬ ComesBefore others orders
          first before = ⊎_elim inside (λ past. omega (
            arith,
            before.lesser,
            get_or_past orders before.place 0 (omega
                (arith, length-orders, past)),
          ))
              (cases_lt before.place n)
            where
              inside : before.place < n → ⊥
              inside h =
                  let same = numeral-same (total (adds o) n) other_place o before.place
                  (λ q less. omega (arith, before.same q less, order-at q (omega arith))) in
                  let front = ap (λ w. numeral w other_place before.place) same_weight in
                  let less : numeral (total (adds other_place) n) other_place (suc before.place) < numeral (total (adds o) n) o
                  (suc before.place) =
                  omega (arith, same, front, before.lesser, order-at before.place h, (listed.within before.place h).0) in
                  let lower = numeral-less (total (adds other_place) n) (total (adds o) n) other_place o (suc before.place) n
                  (λ q within. omega (arith, (listed.within q within).0, (listed.within q within).1)) (omega arith) less in
                  omega (arith, lower, below_other, is_numeral)

    pub is_best : (advice : Advice) → advice.orders ≡ map (order_in n least_cost) (range_with_len 0 n) → advice.weight ≡ least_cost / power_of_16 n
        → advice.given ≡ own_weight weighing cell → IsBest weighing cell advice
    is_best advice read weighed given = at some_ranking.0 some_ranking.1 some_ranking.2
      where
        at : (o : ℕ → ℕ) (k : ℕ) → Attains weighing cell n costs known (2 ^ n - 1) o k → IsBest weighing cell advice
        at o k best = record {
          numbers = subst (λ m. IsOrderList m advice.orders) is_count (numbers o k best advice.orders read);
          weighs = weighed ∙ weighs o k best advice.orders read;
          given = given;
          least = λ others. subst (λ w. w ≤ weight weighing cell others) (sym weighed) (least o k best advice.orders read others);
          first = λ others listed as_little.
              first o k best advice.orders read others (subst (λ m. IsOrderList m others) (sym is_count) listed) (as_little ∙ weighed);
        }
