-- The best orders of a cell are one list: at the first place where two of them differed, one would come before the other.
use Rattle.std.proofs.Common.{◌≡◌, ℕ, zero, suc, ◌<◌, List, slice_index, inl, inr, ap, sym, subst, ◌∙◌, arith, refl}
use Rattle.std.proofs.lemmas.Bool.{cases_lt}
use Rattle.std.proofs.lemmas.List.FromFn.{fill_by_all}
use Rattle.cell_base.specs.declared.cells.Cell.{Cell}
use Rattle.order_advisor.specs.declared.advice.Advice.{Advice}
use Rattle.order_advisor.specs.declared.weighing.Weighing.{Weighing}
use Rattle.order_advisor.specs.Advices.{IsBest}

module _ (weighing : Weighing) (cell : Cell) (a b : Advice) (one : IsBest weighing cell a) (other : IsBest weighing cell b) where
  same_weight : a.weight ≡ b.weight
  same_weight = omega (arith, one.weighs, other.weighs, one.least b.orders, other.least a.orders)

  -- at a place before which they are the same
  same_at : (k : ℕ) → ((r : ℕ) → r < k → slice_index a.orders r ≡ slice_index b.orders r) → slice_index a.orders k ≡ slice_index b.orders k
  same_at k before = elim (cases_lt (slice_index a.orders k) (slice_index b.orders k)) [
    | inl less ↦
        absurd (other.first a.orders one.numbers (sym one.weighs ∙ same_weight) (record { place = k; lesser = less; same = before }))
    | inr most ↦ elim (cases_lt (slice_index b.orders k) (slice_index a.orders k)) [
      | inl less ↦
          absurd (one.first b.orders other.numbers (sym other.weighs ∙ sym same_weight)
          (record { place = k; lesser = less; same = λ r within. sym (before r within) }))
      | inr least ↦ omega (arith, most, least)
    ]
  ]

  same_before : (k r : ℕ) → r < k → slice_index a.orders r ≡ slice_index b.orders r
  same_before zero r within = absurd (omega (arith, within))
  same_before (suc k) r within = elim (cases_lt r k) [
    | inl less ↦ same_before k r less
    | inr most ↦
        let is : k ≡ r = omega (arith, within, most) in
        subst (λ (q : ℕ). slice_index a.orders q ≡ slice_index b.orders q) is (same_at k (same_before k))
  ]

  same_orders : a.orders ≡ b.orders
  same_orders =
      fill_by_all (slice_index b.orders) a.orders _ 0 one.numbers.numbers (λ k within. same_before (suc k) k (omega arith))
      ∙ sym (fill_by_all (slice_index b.orders) b.orders _ 0 other.numbers.numbers (λ k within. refl))

  pub one_advice : a ≡ b
  one_advice =
      ap (λ (orders : List ℕ). record a { orders = orders }) same_orders
      ∙ ap (λ (weight : ℕ). record b { weight = weight; given = a.given }) same_weight
      ∙ ap (λ (given : ℕ). record b { given = given }) (one.given ∙ sym other.given)
