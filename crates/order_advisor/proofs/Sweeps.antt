-- What leads to a resource of a set on resources of the set alone, from the successors of a stage.
use Rattle.std.proofs.Common.{◌≡◌, ℕ, zero, suc, ◌+◌, ◌<◌, ◌≤◌, ◌==◌, ◌≢◌, Bool, true, false, cond, ◌||◌, ◌&&◌, List}
use Rattle.std.proofs.Common.{[], ◌∷◌, length, get_or, All, ap, ap₂, refl, sym, subst, ◌∙◌, ⊎_elim, arith}
use Rattle.std.specs.List.{filter, list_any}
use Rattle.std.proofs.lemmas.Bool.{cases_lt, le-leb, lt-leb, ne_eqb, false≢true}
use Rattle.std.proofs.lemmas.List.Sums.{sum_by-cons}
use Rattle.std.proofs.lemmas.List.FromFn.{length-map-range_with_len, get_or-map-range_with_len}
use Rattle.std.proofs.lemmas.List.{get_or_past}
use Rattle.cell_base.specs.declared.limits.TheConstants.{MAX_ORDER}
use Rattle.cell_base.specs.declared.cells.Cell.{Cell}
use Rattle.cell_base.specs.declared.cells.Resource.{Resource}
use Rattle.cell_base.specs.Names.{IsName}
use Rattle.cell_base.specs.Masks.{has_bit}
use Rattle.cell_base.specs.Stages.{Stage, stage, IsStage, stages, successors, resource_at, order_at, order_of}
use Rattle.cell_base.specs.Numbers.{stage_numbered}
use Rattle.cell_base.specs.Neighborhoods.{leads}
use Rattle.cell_base.specs.Fits.{CellFits, IsWithin, ResourceFits, TypeFits, units_of}
use Rattle.policy_laws.proofs.Leading.{leads_sweep}
use Rattle.policy_laws.proofs.Stages.{resource_within}
use Rattle.order_advisor.specs.Orders.{reordered, with_orders}
use Rattle.order_advisor.specs.Sets.{first_orders, first_cell, added, leads_inside, KnowsInside}
use Rattle.order_advisor.proofs.Ties.{length-reordered, order_within, order_past}

-- the resources but for their orders
reordered_at : (xs : List Resource) (orders : List ℕ) (r : ℕ) (d : Resource) → r < length xs
    → get_or (reordered xs orders) r d ≡ record (get_or xs r d) { order = get_or orders r 0 }
reordered_at [] orders r d within = absurd (omega arith)
reordered_at (x ∷ xs) [] zero d within = refl
reordered_at (x ∷ xs) (o ∷ os) zero d within = refl
reordered_at (x ∷ xs) [] (suc r) d within = reordered_at xs [] r d (omega arith)
reordered_at (x ∷ xs) (o ∷ os) (suc r) d within = reordered_at xs os r d (omega arith)

units_reordered : (xs : List Resource) (orders : List ℕ) → units_of (reordered xs orders) ≡ units_of xs
units_reordered [] orders = refl
units_reordered (x ∷ xs) [] =
    sum_by-cons (λ (r : Resource). r.capacity) (record x { order = 0 }) (reordered xs []) ∙ ap (λ n. x.capacity + n) (units_reordered xs [])
    ∙ sym (sum_by-cons (λ (r : Resource). r.capacity) x xs)
units_reordered (x ∷ xs) (o ∷ os) =
    sum_by-cons (λ (r : Resource). r.capacity) (record x { order = o }) (reordered xs os) ∙ ap (λ n. x.capacity + n) (units_reordered xs os)
    ∙ sym (sum_by-cons (λ (r : Resource). r.capacity) x xs)

-- a cell fits with other orders that keep the limit
pub with_orders-fits : (cell : Cell) → CellFits cell → (orders : List ℕ) → ((r : ℕ) → get_or orders r 0 ≤ MAX_ORDER)
    → CellFits (with_orders cell orders)
with_orders-fits cell fits orders keep = record {
  resource_count = subst (IsWithin 1 64) (sym long) fits.resource_count;
  type_count = fits.type_count;
  resources = λ r d h. subst ResourceFits (sym (reordered_at cell.resources orders r d (omega (arith, long, h))))
      (let inside : r < length cell.resources = omega (arith, long, h) in ((fits.resources r d inside).0, keep r));
  units = subst (λ n. n ≤ 4096) (sym (units_reordered cell.resources orders)) fits.units;
  named = record {
    resources = λ r d h. subst (λ (x : Resource). IsName x.name) (sym (reordered_at cell.resources orders r d (omega (arith, long, h))))
        (fits.named.resources r d (omega (arith, long, h)));
    types = fits.named.types;
  };
  resource_names = λ q r d less h same.
      fits.resource_names q r d less (omega (arith, long, h))
      (sym (ap (λ (x : Resource). x.name) (reordered_at cell.resources orders q d (omega (arith, long, h, less))))
      ∙ same ∙ ap (λ (x : Resource). x.name) (reordered_at cell.resources orders r d (omega (arith, long, h))));
  type_names = fits.type_names;
  types = subst (λ n. All (TypeFits n) cell.types) (sym long) fits.types;
}
  where
    long : length (reordered cell.resources orders) ≡ length cell.resources
    long = length-reordered cell.resources orders

module _ (cell : Cell) (fits : CellFits cell) (set : ℕ) where
  first_at : (q : ℕ) → q < length cell.resources → get_or (first_orders cell set) q 0 ≡ cond (has_bit set q) 0 1
  first_at q within = get_or-map-range_with_len (λ q. cond (has_bit set q) 0 1) 0 (length cell.resources) q q 0 within (omega arith)

  order_inside : (q : ℕ) → has_bit set q ≡ true → order_of (first_cell cell set) q ≡ 0
  order_inside q stands = ⊎_elim
      (λ (h : q < length cell.resources). order_within cell (first_orders cell set) q h ∙ first_at q h ∙ ap (λ b. cond b 0 1) stands)
      (λ (h : length cell.resources ≤ q). order_past cell (first_orders cell set) q h)
      (cases_lt q (length cell.resources))

  order_outside : (q : ℕ) → q < length cell.resources → has_bit set q ≡ false → order_of (first_cell cell set) q ≡ 1
  order_outside q h out = order_within cell (first_orders cell set) q h ∙ first_at q h ∙ ap (λ b. cond b 0 1) out

  first-fits : CellFits (first_cell cell set)
  first-fits = with_orders-fits cell fits (first_orders cell set) keep
    where
      at_most_one : (b : Bool) → cond b 0 1 ≤ 65535
      at_most_one true = omega arith
      at_most_one false = omega arith

      keep : (r : ℕ) → get_or (first_orders cell set) r 0 ≤ MAX_ORDER
      keep r = ⊎_elim
          (λ (h : r < length cell.resources). subst (λ o. o ≤ 65535) (sym (first_at r h)) (at_most_one (has_bit set r)))
          (λ (h : length cell.resources ≤ r).
          let count : length (first_orders cell set) ≡ length cell.resources =
          length-map-range_with_len {X = ℕ} (λ q. cond (has_bit set q) 0 1) 0 (length cell.resources) in
          omega (arith, get_or_past (first_orders cell set) r 0 (omega (arith, h, count))))
          (cases_lt r (length cell.resources))

  none_leads : (ts : List Stage) (r : ℕ) → has_bit set r ≡ false → list_any (λ t. leads_inside cell set t r) ts ≡ false
  none_leads [] r out = refl
  none_leads (t ∷ ts) r out = ap₂ ◌||◌ (ap (λ b. b && leads (first_cell cell set) t r) out) (none_leads ts r out)

  all_leads : (ts : List Stage) (r : ℕ) → has_bit set r ≡ true
      → list_any (λ t. leads_inside cell set t r) ts ≡ list_any (λ t. leads (first_cell cell set) t r) ts
  all_leads [] r stands = refl
  all_leads (t ∷ ts) r stands = ap₂ ◌||◌ (ap (λ b. b && leads (first_cell cell set) t r) stands) (all_leads ts r stands)

  -- a stage on a resource outside leads nowhere
  pub inside-out : (s : Stage) (r : ℕ) → IsStage cell s → has_bit set (resource_at cell s) ≡ false → leads_inside cell set s r ≡ false
  inside-out s r standing out = at (has_bit set r) refl
    where
      at : (b : Bool) → has_bit set r ≡ b → leads_inside cell set s r ≡ false
      at false e = ap (λ b. b && leads (first_cell cell set) s r) e
      at true e =
          let other : resource_at cell s ≢ r = λ same. absurd (false≢true (sym out ∙ ap (has_bit set) same ∙ e)) in
          let greater : order_of (first_cell cell set) r < order_at (first_cell cell set) s =
          omega (arith, order_inside r e, order_outside (resource_at cell s) (resource_within cell fits s standing) out) in
          ap (λ b. b && leads (first_cell cell set) s r) e
          ∙ leads_sweep (first_cell cell set) first-fits r s standing
          ∙ ap₂ (λ a b. a || (b && list_any (λ t. leads (first_cell cell set) t r) (successors cell s))) (ne_eqb _ _ other)
          (lt-leb _ _ greater)

  -- one on a resource of the set leads there, and where its successors lead
  pub inside-on : (s : Stage) (r : ℕ) → IsStage cell s → has_bit set (resource_at cell s) ≡ true
      → leads_inside cell set s r ≡ ((resource_at cell s == r) || list_any (λ t. leads_inside cell set t r) (successors cell s))
  inside-on s r standing here = at (has_bit set r) refl
    where
      at : (b : Bool) → has_bit set r ≡ b
          → leads_inside cell set s r ≡ ((resource_at cell s == r) || list_any (λ t. leads_inside cell set t r) (successors cell s))
      at false e =
          let other : resource_at cell s ≢ r = λ same. absurd (false≢true (sym e ∙ sym (ap (has_bit set) same) ∙ here)) in
          ap (λ b. b && leads (first_cell cell set) s r) e
          ∙ sym (ap₂ ◌||◌ (ne_eqb _ _ other) (none_leads (successors cell s) r e))
      at true e =
          let at_most : order_at (first_cell cell set) s ≤ order_of (first_cell cell set) r =
          omega (arith, order_inside (resource_at cell s) here) in
          ap (λ b. b && leads (first_cell cell set) s r) e
          ∙ leads_sweep (first_cell cell set) first-fits r s standing
          ∙ ap (λ b. (resource_at cell s == r) || (b && list_any (λ t. leads (first_cell cell set) t r) (successors cell s)))
          (le-leb _ _ at_most)
          ∙ ap (λ b. (resource_at cell s == r) || b) (sym (all_leads (successors cell s) r e))

-- as many masks have the bit as there are stages that pass
filters_agree : (p : ℕ → Bool) (q : Stage → Bool) (masks : List ℕ) (ss : List Stage) (d : Stage) → length masks ≡ length ss
    → ((k : ℕ) → k < length ss → p (get_or masks k 0) ≡ q (get_or ss k d)) → length (filter p masks) ≡ length (filter q ss)
filters_agree p q [] [] d long agree = refl
filters_agree p q [] (s ∷ ss) d long agree = absurd (omega (arith, long))
filters_agree p q (m ∷ masks) [] d long agree = absurd (omega (arith, long))
filters_agree p q (m ∷ masks) (s ∷ ss) d long agree =
    at (p m) (q s) refl refl (filters_agree p q masks ss d (omega (arith, long)) (λ k h. agree (suc k) (omega arith)))
  where
    at : (a b : Bool) → p m ≡ a → q s ≡ b → length (filter p masks) ≡ length (filter q ss)
        → length (cond a (m ∷ filter p masks) (filter p masks)) ≡ length (cond b (s ∷ filter q ss) (filter q ss))
    at true true e f rest = ap (λ n. suc n) rest
    at false false e f rest = rest
    at true false e f rest = absurd (false≢true (sym f ∙ sym (agree 0 (omega arith)) ∙ e))
    at false true e f rest = absurd (false≢true (sym e ∙ agree 0 (omega arith) ∙ f))

pub added-counted : (cell : Cell) (set r : ℕ) (masks : List ℕ) → length masks ≡ length (stages cell) → KnowsInside cell set 0 masks
    → has_bit set r ≡ true → length (filter (λ mask. has_bit mask r) masks) ≡ added cell r set
added-counted cell set r masks long known stands =
    filters_agree (λ mask. has_bit mask r) (λ s. leads (first_cell cell set) s r) masks (stages cell) (stage 0 0) long
    (λ k h. known k (omega arith) h r ∙ ap (λ b. b && leads (first_cell cell set) (stage_numbered cell k) r) stands)
