-- The first place of a key, as one key more counts and as keys are lost.
use Rattle.std.proofs.Common.{◌≡◌, ℕ, ◌+◌, ◌<◌, ◌≤◌, List, length, get_or, set, subst, sym, ap, arith, ◌∙◌, ⊎_elim}
use Rattle.std.proofs.Common.{get_or-set_same, get_or-set_other}
use Rattle.std.proofs.lemmas.Bool.{cases_eq, cases_lt}
use Rattle.part_table.specs.declared.chain.TheConstants.{NOWHERE}
use Rattle.part_table.specs.Chains.{OFF, IsFirst, WasFirst, IsOnWay, LeadOn}

module _ (keys : List ℕ) (n r h : ℕ) (first : IsFirst keys n r h) where
  -- one key more counts, and is another one or comes after the first
  pub first_kept : n < NOWHERE → (get_or keys n 0 ≡ r → h < n) → IsFirst keys (n + 1) r h
  first_kept more kept = record {
    here = λ below. ⊎_elim (λ inside. first.here inside) (λ outside. absurd (omega (arith, below, more, first.past outside)))
        (cases_lt h n);
    least = λ k below is. ⊎_elim (λ earlier. first.least k earlier is) (λ late. last k below late is) (cases_lt k n);
    past = λ beyond. first.past (omega (arith, beyond));
  }
    where
      last : (k : ℕ) → k < n + 1 → n ≤ k → get_or keys k 0 ≡ r → h ≤ k
      last k below late is =
          let at : k ≡ n = omega (arith, below, late) in
          omega (arith, kept (subst (λ q. get_or keys q 0 ≡ r) at is), at)

  -- the key is the one, and first where there was none
  pub first_met : (place : ℕ) → get_or keys n 0 ≡ r → (h < n → place ≡ h) → (n ≤ h → place ≡ n) → IsFirst keys (n + 1) r place
  first_met place is early late = ⊎_elim some none (cases_lt h n)
    where
      some : h < n → IsFirst keys (n + 1) r place
      some less = record {
        here = λ below. subst (λ q. get_or keys q 0 ≡ r) (sym (early less)) (first.here less);
        least = λ k below same. ⊎_elim (λ before. omega (arith, early less, first.least k before same))
            (λ after. omega (arith, early less, less, after)) (cases_lt k n);
        past = λ beyond. absurd (omega (arith, early less, less, beyond));
      }

      none : n ≤ h → IsFirst keys (n + 1) r place
      none far = record {
        here = λ below. subst (λ q. get_or keys q 0 ≡ r) (sym (late far)) is;
        least = λ k below same. ⊎_elim (λ before. absurd (omega (arith, far, before, first.least k before same)))
            (λ after. omega (arith, late far, after)) (cases_lt k n);
        past = λ beyond. absurd (omega (arith, late far, beyond));
      }

  -- a place loses its key
  module _ (at : ℕ) (below_off : r < OFF) (inside : at < length keys) where
    lost : (k : ℕ) → get_or (set keys at OFF) k 0 ≡ r → k ≡ at → ⊥
    lost k is same =
        absurd (omega (
          arith,
          below_off,
          is,
          ap (λ q. get_or (set keys at OFF) q 0) same,
          get_or-set_same keys at OFF 0 inside,
        ))

    kept_at : (k : ℕ) → get_or (set keys at OFF) k 0 ≡ r → get_or keys k 0 ≡ r
    kept_at k is = sym (get_or-set_other keys at k OFF 0 (lost k is)) ∙ is

    pub first_left : (h ≡ at → ⊥) → IsFirst (set keys at OFF) n r h
    first_left away = record {
      here = λ below. get_or-set_other keys at h OFF 0 away ∙ first.here below;
      least = λ k below is. first.least k below (kept_at k is);
      past = first.past;
    }

    pub was_first : WasFirst (set keys at OFF) n r at h
    was_first = record {
      here = λ same k most below is. ⊎_elim (lost k is)
          (λ away. absurd (omega (arith, same, most, away, first.least k below (kept_at k is)))) (cases_eq k at);
      other = first_left;
    }

    -- where it was that of another resource
    pub first_of_other : at < n → (get_or keys at 0 ≡ r → ⊥) → IsFirst (set keys at OFF) n r h
    first_of_other within other =
        first_left (λ same. other (subst (λ q. get_or keys q 0 ≡ r) same (first.here (omega (arith, same, within)))))

-- along the places that were told a resource, of which the keys keep those that were not lost
module _ (keys told next : List ℕ) (n r : ℕ) (kept : (k : ℕ) → k < n → get_or keys k 0 ≡ r → get_or told k 0 ≡ r)
    (links : LeadOn told next n) where
  pub way_from : (at : ℕ) → at < n → get_or told at 0 ≡ r → ((k : ℕ) → k ≤ at → k < n → get_or keys k 0 ≡ r → ⊥)
      → IsOnWay keys told n r (get_or next at 0)
  way_from at inside here none = record {
    none = λ k below within has. ⊎_elim
        (λ (late : at < k). (links at inside).between k late below within (kept k within has ∙ sym here))
        (λ (early : k ≤ at). none k early within has) (cases_lt at k);
    here = λ below. (links at inside).here below ∙ here;
  }

  pub way_on : (at : ℕ) → at < n → IsOnWay keys told n r at → (get_or keys at 0 ≡ r → ⊥) → IsOnWay keys told n r (get_or next at 0)
  way_on at inside way other = way_from at inside (way.here inside) none
    where
      none : (k : ℕ) → k ≤ at → k < n → get_or keys k 0 ≡ r → ⊥
      none k most within has = ⊎_elim (λ same. other (subst (λ q. get_or keys q 0 ≡ r) same has))
          (λ away. way.none k (omega (arith, most, away)) within has) (cases_eq k at)

-- a place on the way that has the key is its first, and one past the end is that of no key
module _ (keys told : List ℕ) (n r at : ℕ) (way : IsOnWay keys told n r at) where
  pub way_found : at < n → get_or keys at 0 ≡ r → IsFirst keys n r at
  way_found inside here = record {
    here = λ below. here;
    least = λ k below is. ⊎_elim (λ (less : k < at). absurd (way.none k less below is)) (λ h. h) (cases_lt k at);
    past = λ beyond. absurd (omega (arith, inside, beyond));
  }

  pub way_ended : n ≤ NOWHERE → n ≤ at → IsFirst keys n r NOWHERE
  way_ended few past = record {
    here = λ below. absurd (omega (arith, few, below));
    least = λ k below is. absurd (way.none k (omega (arith, below, past)) below is);
    past = λ beyond. omega arith;
  }
