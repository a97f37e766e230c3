-- The plan's next part, found by one look at each part.
use Rattle.std.proofs.Common.{◌≡◌, ◌==◌, Bool, true, false, cond, List, [], ◌∷◌, ◌++◌, Contains, Option, Some, None, find, ap, refl}
use Rattle.std.proofs.Common.{sym, subst, ⊎_elim, ◌∙◌}
use Rattle.std.specs.List.{list_all}
use Rattle.std.specs.Option.{option_or}
use Rattle.std.proofs.lemmas.Bool.{cases_Bool, eqb-true, eq-eqb, false_from_ne_true, both_ways, cond-true}
use Rattle.std.proofs.lemmas.List.Elements.{Contains-push_cases}
use Rattle.std.proofs.lemmas.List.Folds.{find-append}
use Rattle.cell_base.specs.declared.cells.Cell.{Cell}
use Rattle.cell_base.specs.declared.requests.Part.{Part}
use Rattle.cell_base.specs.Plans.{comes_first, resource_of_part, next_part}
use Rattle.policy_laws.proofs.Lists.{Contains-none, find-Contains, find_none, find_agree, same_from_both, All-from_Contains}
use Rattle.policy_laws.proofs.Lists.{list_all-from_Contains, list_all-Contains}
use Rattle.policy_laws.proofs.Picks.{comes_first-total, comes_first-transitive, comes_first-both}
use Rattle.banker_check.specs.HybridPlans.{earlier}

module _ (cell : Cell) where
  abbrev before : Part → Part → Bool
  before a b = comes_first cell (resource_of_part cell a) (resource_of_part cell b)

  -- the part stands on the same resource
  abbrev beside : Part → Part → Bool
  beside a b = resource_of_part cell b == resource_of_part cell a

  -- the part is the first of these on the resource that comes first
  pub record IsFirst (parts : List Part) (part : Part) : Type 0 where
    pub least : (other : Part) → Contains parts other → before part other ≡ true
    pub found : find (beside part) parts ≡ Some part

  -- the same of an option: there is none of no parts
  abbrev pub AreFirst : List Part → Option Part → Type 0
  AreFirst parts None = parts ≡ []
  AreFirst parts (Some part) = IsFirst parts part

  itself : (part : Part) → before part part ≡ true
  itself part = ⊎_elim (λ e. e) (comes_first-total cell (resource_of_part cell part) (resource_of_part cell part))
      (cases_Bool (before part part))

  -- one part more
  pub first-more : (parts : List Part) (first : Option Part) (part : Part) → AreFirst parts first
      → IsFirst (parts ++ part ∷ []) (earlier cell first part)
  first-more parts None part e = rw e (record {
    least = λ other c.
        ⊎_elim (λ none. absurd (Contains-none other none)) (λ same. subst (λ other. before part other ≡ true) same (itself part))
        (Contains-push_cases [] part other c);
    found = cond-true (beside part part) _ _ (eq-eqb (resource_of_part cell part) (resource_of_part cell part) refl);
  })
  first-more parts (Some best) part is = at (before best part) refl
    where
      at : (b : Bool) → before best part ≡ b → IsFirst (parts ++ part ∷ []) (cond b best part)
      at true e = record {
        least = λ other c. ⊎_elim (is.least other) (λ same. subst (λ other. before best other ≡ true) same e)
            (Contains-push_cases parts part other c);
        found = find-append (beside best) parts (part ∷ []) ∙ ap (λ o. option_or o (find (beside best) (part ∷ []))) is.found;
      }
      at false e =
          let first : before part best ≡ true = comes_first-total cell (resource_of_part cell best) (resource_of_part cell part) e in
          let none : find (beside part) parts ≡ None =
          find_none (beside part) parts (All-from_Contains (λ other. beside part other ≡ false) parts (λ other c.
          false_from_ne_true _ (λ f. both_ways (before best part) e
          (subst (λ r. comes_first cell (resource_of_part cell best) r ≡ true) (eqb-true _ _ f) (is.least other c))))) in
          record {
            least = λ other c.
                ⊎_elim (λ h. comes_first-transitive cell _ (resource_of_part cell best) _ first (is.least other h))
                (λ same. subst (λ other. before part other ≡ true) same (itself part)) (Contains-push_cases parts part other c);
            found = find-append (beside part) parts (part ∷ []) ∙ ap (λ o. option_or o (find (beside part) (part ∷ []))) none
                ∙ cond-true (beside part part) _ _ (eq-eqb (resource_of_part cell part) (resource_of_part cell part) refl);
          }

  -- the first part of all is the plan's next one
  pub first-next : (parts : List Part) (first : Option Part) → AreFirst parts first → first ≡ next_part cell parts
  first-next parts None e = rw e refl
  first-next parts (Some best) is =
      let stands = find-Contains (beside best) parts best is.found in
      sym is.found
      ∙ find_agree (beside best) (λ part. list_all (before part) parts) parts
      (All-from_Contains (λ part. beside best part ≡ list_all (before part) parts) parts (λ part c.
      same_from_both (beside best part) (list_all (before part) parts)
      (λ e. list_all-from_Contains (before part) parts (λ other d.
      subst (λ r. comes_first cell r (resource_of_part cell other) ≡ true) (sym (eqb-true _ _ e)) (is.least other d)))
      (λ e. eq-eqb _ _ (comes_first-both cell _ _ (list_all-Contains (before part) parts best e stands) (is.least part c)))))

  -- the first part is one of them
  pub first-stands : (parts : List Part) (part : Part) → IsFirst parts part → Contains parts part
  first-stands parts part is = find-Contains (beside part) parts part is.found
