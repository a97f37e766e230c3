-- The first number of a range that passes a test.
use Rattle.std.proofs.Common.{◌≡◌, ℕ, zero, suc, ◌+◌, ◌<◌, ◌≤◌, Bool, true, false, cond, Some, None, find, refl, sym, subst, arith, ⊎_elim}
use Rattle.std.specs.List.{range_with_len}
use Rattle.std.proofs.lemmas.Option.{none-some}
use Rattle.std.proofs.lemmas.Bool.{cases_eq}

-- nothing is found exactly where no number passes
pub fails_of_none : (p : ℕ → Bool) (a n : ℕ) → find p (range_with_len a n) ≡ None → (k : ℕ) → a ≤ k → k < a + n → p k ≡ false
fails_of_none p a zero e k from below = absurd (omega arith)
fails_of_none p a (suc n) e k from below =
    at (p a) refl e (λ h other. fails_of_none p (a + 1) n h k (omega (arith, other)) (omega arith))
  where
    at : (b : Bool) → p a ≡ b → cond b (Some a) (find p (range_with_len (a + 1) n)) ≡ None
        → (find p (range_with_len (a + 1) n) ≡ None → (k ≡ a → ⊥) → p k ≡ false) → p k ≡ false
    at true passes h later = absurd (none-some a (sym h))
    at false fails h later = ⊎_elim (λ (same : k ≡ a). subst (λ q. p q ≡ false) (sym same) fails) (later h) (cases_eq k a)

pub none_of_fails : (p : ℕ → Bool) (a n : ℕ) → ((k : ℕ) → a ≤ k → k < a + n → p k ≡ false) → find p (range_with_len a n) ≡ None
none_of_fails p a zero fails = refl
none_of_fails p a (suc n) fails =
    rw (fails a (omega arith) (omega arith)) (none_of_fails p (a + 1) n (λ k from below. fails k (omega arith) (omega arith)))

-- the one that passes where no lower one does
pub first_of_range : (p : ℕ → Bool) (a n r : ℕ) → a ≤ r → r < a + n → p r ≡ true → ((k : ℕ) → a ≤ k → k < r → p k ≡ false)
    → find p (range_with_len a n) ≡ Some r
first_of_range p a zero r from below passes fails = absurd (omega arith)
first_of_range p a (suc n) r from below passes fails =
    ⊎_elim here
    (λ other. behind other (first_of_range p (a + 1) n r (omega (arith, other)) (omega arith) passes (λ k h l. fails k (omega arith) l)))
    (cases_eq r a)
  where
    here : r ≡ a → find p (range_with_len a (suc n)) ≡ Some r
    here same = let first : p a ≡ true = subst (λ q. p q ≡ true) same passes in rw first (λ i. Some (sym same i))

    behind : (r ≡ a → ⊥) → find p (range_with_len (a + 1) n) ≡ Some r → find p (range_with_len a (suc n)) ≡ Some r
    behind other later = rw (fails a (omega arith) (omega (arith, other))) later
