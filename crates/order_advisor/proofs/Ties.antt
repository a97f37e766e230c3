-- What a stage leads to under other orders: nothing more where the orders allow no more.
use Rattle.std.proofs.Common.{◌≡◌, ℕ, zero, suc, ◌<◌, ◌≤◌, Bool, true, false, cond, nat_le, List, [], ◌∷◌, length}
use Rattle.std.proofs.Common.{get_or, map, slice_get, ap, refl, sym, ◌∙◌, ⊎_elim, arith}
use Rattle.std.specs.List.{filter, list_any}
use Rattle.std.specs.Option.{option_map_or}
use Rattle.std.proofs.lemmas.Bool.{leb-true, le-leb, or_cases, or_left, or_right, and_parts, and_from, cases_lt, false≢true}
use Rattle.cell_base.specs.declared.cells.Cell.{Cell}
use Rattle.cell_base.specs.declared.cells.Resource.{Resource}
use Rattle.cell_base.specs.Stages.{Stage, stages, successors, resource_at, order_of, places_left}
use Rattle.cell_base.specs.Neighborhoods.{leads_within, leads}
use Rattle.order_advisor.specs.declared.weighing.Weighing.{Weighing}
use Rattle.order_advisor.specs.Orders.{reordered, with_orders, own_orders, members_under, weight_under, weight, TieLaw}
use Rattle.policy_laws.proofs.Totals.{total}
use Rattle.order_advisor.proofs.Sums.{total-sum_by}

-- the resources stay as many
pub length-reordered : (xs : List Resource) (orders : List ℕ) → length (reordered xs orders) ≡ length xs
length-reordered [] orders = refl
length-reordered (x ∷ xs) [] = ap (λ n. suc n) (length-reordered xs [])
length-reordered (x ∷ xs) (o ∷ os) = ap (λ n. suc n) (length-reordered xs os)

-- a resource of the cell has the order that it was given
reordered_within : (xs : List Resource) (orders : List ℕ) (r : ℕ) → r < length xs
    → option_map_or (λ (x : Resource). x.order) (slice_get (reordered xs orders) r) 0 ≡ get_or orders r 0
reordered_within [] orders r within = absurd (omega arith)
reordered_within (x ∷ xs) [] zero within = refl
reordered_within (x ∷ xs) (o ∷ os) zero within = refl
reordered_within (x ∷ xs) [] (suc r) within = reordered_within xs [] r (omega arith)
reordered_within (x ∷ xs) (o ∷ os) (suc r) within = reordered_within xs os r (omega arith)

-- another has none
reordered_past : (xs : List Resource) (orders : List ℕ) (r : ℕ) → length xs ≤ r
    → option_map_or (λ (x : Resource). x.order) (slice_get (reordered xs orders) r) 0 ≡ 0
reordered_past [] orders r past = refl
reordered_past (x ∷ xs) orders zero past = absurd (omega arith)
reordered_past (x ∷ xs) [] (suc r) past = reordered_past xs [] r (omega arith)
reordered_past (x ∷ xs) (o ∷ os) (suc r) past = reordered_past xs os r (omega arith)

-- the cell's own orders give the cell
own : (xs : List Resource) → reordered xs (map (λ (x : Resource). x.order) xs) ≡ xs
own [] = refl
own (x ∷ xs) = ap (λ ys. x ∷ ys) (own xs)

pub with_own_orders : (cell : Cell) → with_orders cell (own_orders cell) ≡ cell
with_own_orders cell = ap (λ xs. record cell { resources = xs }) (own cell.resources)

-- one test passes wherever the other does
list_any_more : (p q : Stage → Bool) (xs : List Stage) → ((x : Stage) → p x ≡ true → q x ≡ true) → list_any p xs ≡ true
    → list_any q xs ≡ true
list_any_more p q [] each e = e
list_any_more p q (x ∷ xs) each e =
    ⊎_elim (λ h. or_left _ _ (each x h)) (λ h. or_right _ _ (list_any_more p q xs each h)) (or_cases (p x) (list_any p xs) e)

filter_more : (p q : Stage → Bool) (xs : List Stage) → ((x : Stage) → p x ≡ true → q x ≡ true) → length (filter p xs) ≤ length (filter q xs)
filter_more p q [] each = omega arith
filter_more p q (x ∷ xs) each = at (p x) (q x) refl refl (filter_more p q xs each)
  where
    at : (a b : Bool) → p x ≡ a → q x ≡ b → length (filter p xs) ≤ length (filter q xs)
        → length (cond a (x ∷ filter p xs) (filter p xs)) ≤ length (cond b (x ∷ filter q xs) (filter q xs))
    at true true e f rest = omega arith
    at true false e f rest = absurd (false≢true (sym f ∙ each x e))
    at false true e f rest = omega arith
    at false false e f rest = rest

module _ (cell : Cell) where
  pub order_within : (orders : List ℕ) (r : ℕ) → r < length cell.resources → order_of (with_orders cell orders) r ≡ get_or orders r 0
  order_within orders r within = reordered_within cell.resources orders r within

  pub order_past : (orders : List ℕ) (r : ℕ) → length cell.resources ≤ r → order_of (with_orders cell orders) r ≡ 0
  order_past orders r past = reordered_past cell.resources orders r past

  -- for resource r one list of orders allows no resource on the way that the other does not
  abbrev pub AllowsNoMore : ℕ → List ℕ → List ℕ → Type 0
  AllowsNoMore r orders others = (q : ℕ) → q < length cell.resources → get_or orders q 0 ≤ get_or orders r 0
      → get_or others q 0 ≤ get_or others r 0

  module _ (r : ℕ) (within : r < length cell.resources) (orders others : List ℕ) (no_more : AllowsNoMore r orders others) where
    allowed : (q : ℕ) → nat_le (order_of (with_orders cell orders) q) (order_of (with_orders cell orders) r) ≡ true
        → nat_le (order_of (with_orders cell others) q) (order_of (with_orders cell others) r) ≡ true
    allowed q e = le-leb _ _ (⊎_elim inside outside (cases_lt q (length cell.resources)))
      where
        inside : q < length cell.resources → order_of (with_orders cell others) q ≤ order_of (with_orders cell others) r
        inside h =
            let less = no_more q h (omega (arith, leb-true _ _ e, order_within orders q h, order_within orders r within)) in
            omega (arith, less, order_within others q h, order_within others r within)

        outside : length cell.resources ≤ q → order_of (with_orders cell others) q ≤ order_of (with_orders cell others) r
        outside h = omega (arith, order_past others q h)

    leads_no_more_within : (n : ℕ) (s : Stage) → leads_within (with_orders cell orders) r n s ≡ true
        → leads_within (with_orders cell others) r n s ≡ true
    leads_no_more_within zero s e = e
    leads_no_more_within (suc n) s e =
        ⊎_elim (λ h. or_left _ _ h)
        (λ h. let parts = and_parts _ _ h in
        or_right _ _ (and_from _ _ (allowed (resource_at cell s) parts.0)
        (list_any_more (λ t. leads_within (with_orders cell orders) r n t) (λ t. leads_within (with_orders cell others) r n t)
        (successors cell s)
        (leads_no_more_within n) parts.1)))
        (or_cases _ _ e)

    -- then no stage leads to r that did not before
    pub leads_no_more : (s : Stage) → leads (with_orders cell orders) s r ≡ true → leads (with_orders cell others) s r ≡ true
    leads_no_more s = leads_no_more_within (places_left cell s) s

    pub members_no_more : members_under cell orders r ≤ members_under cell others r
    members_no_more = filter_more (λ s. leads (with_orders cell orders) s r) (λ s. leads (with_orders cell others) s r)
        (stages cell) leads_no_more

  pub tie_law : TieLaw cell
  tie_law orders broken breaks s r within = leads_no_more r within broken orders
      (λ q inside at_most. ⊎_elim (λ (h : get_or orders r 0 < get_or orders q 0). absurd (omega
      (arith, breaks r q within inside h, at_most))) (λ h. h)
      (cases_lt (get_or orders r 0) (get_or orders q 0))) s

  pub weight-total : (weighing : Weighing) (orders : List ℕ)
      → weight weighing cell orders ≡ total (weight_under weighing cell orders) (length cell.resources)
  weight-total weighing orders = total-sum_by (weight_under weighing cell orders) (length cell.resources)
