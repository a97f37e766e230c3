-- The links between the places that were told a resource, as one place more counts.
use Rattle.std.proofs.Common.{◌≡◌, ℕ, ◌+◌, ◌<◌, ◌≤◌, ◌⊎◌, Bool, true, false, cond, nat_lt, refl, List, length}
use Rattle.std.proofs.Common.{get_or, set, subst, sym, arith, ◌∙◌, ⊎_elim, inl, inr, get_or-set_same, get_or-set_other}
use Rattle.std.proofs.lemmas.Bool.{cases_eq, cases_lt, ltb-true, ltb-false}
use Rattle.part_table.specs.declared.chain.TheConstants.{NOWHERE}
use Rattle.part_table.specs.Chains.{IsNextOf, LeadOn, IsLast, linked}

module _ (told : List ℕ) (n r : ℕ) where
  -- what leads on to a place leads on to it still, where it has one or the new one is of another resource
  next_kept : (from place : ℕ) → (place < n) ⊎ (get_or told n 0 ≡ r → ⊥) → n < NOWHERE → IsNextOf told n r from place
      → IsNextOf told (n + 1) r from place
  next_kept from place either more is = record {
    after = is.after;
    here = λ below. ⊎_elim (λ inside. is.here inside) (λ outside. absurd (omega (arith, below, more, is.past outside)))
        (cases_lt place n);
    between = λ k above below within same. ⊎_elim (λ inside. is.between k above below inside same)
        (λ outside.
        let last : k ≡ n = omega (arith, within, outside) in
        ⊎_elim (λ have. absurd (omega (arith, have, last, below)))
        (λ other. other (subst (λ q. get_or told q 0 ≡ r) last same)) either)
        (cases_lt k n);
    past = λ beyond. is.past (omega (arith, beyond));
  }

  -- the last place of another resource
  pub last_kept : (place : ℕ) → (get_or told n 0 ≡ r → ⊥) → n < NOWHERE → IsLast told n r place → IsLast told (n + 1) r place
  last_kept place other more is = record {
    here = λ below. ⊎_elim (λ inside. is.here inside) (λ outside. absurd (omega (arith, below, more, is.past outside)))
        (cases_lt place n);
    after = λ k above within same. ⊎_elim (λ inside. is.after k above inside same)
        (λ outside. other (subst (λ q. get_or told q 0 ≡ r) (omega (arith, within, outside)) same)) (cases_lt k n);
    none = λ beyond k within same. ⊎_elim (λ inside. is.none (omega (arith, beyond)) k inside same)
        (λ outside. other (subst (λ q. get_or told q 0 ≡ r) (omega (arith, within, outside)) same)) (cases_lt k n);
    past = λ beyond. is.past (omega (arith, beyond));
  }

  -- the new place is the last one of its resource
  pub last_new : get_or told n 0 ≡ r → IsLast told (n + 1) r n
  last_new is = record {
    here = λ below. is;
    after = λ k above within. absurd (omega (arith, above, within));
    none = λ beyond. absurd (omega (arith, beyond));
    past = λ beyond. absurd (omega (arith, beyond));
  }

  -- nothing comes after it
  next_new : n < NOWHERE → IsNextOf told (n + 1) r n NOWHERE
  next_new more = record {
    after = more;
    here = λ below. absurd (omega (arith, more, below));
    between = λ k above below within. absurd (omega (arith, above, within));
    past = λ beyond. omega arith;
  }

  -- the place that was the last one of its resource leads on to it
  next_of_last : (place : ℕ) → place < n → get_or told n 0 ≡ r → IsLast told n r place → IsNextOf told (n + 1) r place n
  next_of_last place inside same is = record {
    after = inside;
    here = λ below. same;
    between = λ k above below within. is.after k above below;
    past = λ beyond. absurd (omega (arith, beyond));
  }

-- one place more in all links
module _ (told next : List ℕ) (n last : ℕ) (links : LeadOn told next n) (is : IsLast told n (get_or told n 0) last)
    (more : n < NOWHERE) (long : n < length next) (nowhere : get_or next n 0 ≡ NOWHERE) where
  -- another place of the same resource has a next one already
  has_next : (k : ℕ) → k < n → (k ≡ last → ⊥) → get_or told n 0 ≡ get_or told k 0 → get_or next k 0 < n
  has_next k inside away same = ⊎_elim (λ (h : get_or next k 0 < n). h) none (cases_lt (get_or next k 0) n)
    where
      none : n ≤ get_or next k 0 → get_or next k 0 < n
      none far = ⊎_elim
          (λ (there : last < n). ⊎_elim
          (λ (later : k < last). absurd ((links k inside).between last later (omega (arith, there, far)) there (is.here there ∙ same)))
          (λ (other : last ≤ k). absurd (is.after k (omega (arith, other, away)) inside (sym same)))
          (cases_lt k last))
          (λ (beyond : n ≤ last). absurd (is.none beyond k inside (sym same)))
          (cases_lt last n)

  other_place : (k : ℕ) → k < n → (k ≡ last → ⊥) → IsNextOf told (n + 1) (get_or told k 0) k (get_or next k 0)
  other_place k inside away =
      next_kept told n (get_or told k 0) k (get_or next k 0)
      (⊎_elim (λ e. inl (has_next k inside away e)) (λ e. inr e) (cases_eq (get_or told n 0) (get_or told k 0))) more (links k inside)

  new_place : (after : List ℕ) → get_or after n 0 ≡ NOWHERE → (k : ℕ) → k ≡ n
      → IsNextOf told (n + 1) (get_or told k 0) k (get_or after k 0)
  new_place after end k same =
      subst (λ q. IsNextOf told (n + 1) (get_or told q 0) q (get_or after q 0)) (sym same)
      (subst (λ place. IsNextOf told (n + 1) (get_or told n 0) n place) (sym end) (next_new told n (get_or told n 0) more))

  pub linked_more : LeadOn told (linked next last n) (n + 1)
  linked_more = by (nat_lt last n) refl
    where
      by : (b : Bool) → nat_lt last n ≡ b → LeadOn told (cond b (set next last n) next) (n + 1)
      by true there k within = ⊎_elim early late (cases_lt k n)
        where
          before : last < n
          before = ltb-true _ _ there

          here : k ≡ last → IsNextOf told (n + 1) (get_or told k 0) k (get_or (set next last n) k 0)
          here same =
              subst (λ q. IsNextOf told (n + 1) (get_or told q 0) q (get_or (set next last n) q 0)) (sym same)
              (rw (get_or-set_same next last n 0 (omega (arith, before, long)))
              (subst (λ r. IsNextOf told (n + 1) r last n) (sym (is.here before))
              (next_of_last told n (get_or told n 0) last before refl is)))

          early : k < n → IsNextOf told (n + 1) (get_or told k 0) k (get_or (set next last n) k 0)
          early inside = ⊎_elim here
              (λ away. rw (get_or-set_other next last k n 0 away) (other_place k inside away)) (cases_eq k last)

          late : n ≤ k → IsNextOf told (n + 1) (get_or told k 0) k (get_or (set next last n) k 0)
          late beyond =
              new_place (set next last n)
              (get_or-set_other next last n n 0 (λ same. absurd (omega (arith, same, before))) ∙ nowhere) k
              (omega (arith, within, beyond))
      by false none k within = ⊎_elim
          (λ inside. other_place k inside (λ same. absurd (omega (arith, same, inside, ltb-false _ _ none))))
          (λ beyond. new_place next nowhere k (omega (arith, within, beyond))) (cases_lt k n)
