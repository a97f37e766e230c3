-- Verdicts on lines that follow one another.
use Rattle.std.proofs.Common.{◌≡◌, ℕ, zero, suc, ◌+◌, ◌<◌, List, [], ◌∷◌, ◌++◌, map, length}
use Rattle.std.proofs.Common.{Option, Some, None, add-zero, refl, sym, ap, ◌∙◌, arith}
use Rattle.std.specs.List.{range_with_len}
use Rattle.shift_checker.specs.declared.verdict.Why.{Why}
use Rattle.shift_checker.specs.declared.verdict.Verdict.TheVariants.{Yes, No}
use Rattle.shift_checker.specs.Judging.{verdict_from}

-- ---- lines after lines

module _ (later other : List (Option Why)) where
  -- after lines that are right only the later ones count, and after one that fails none of them
  pub same_after : (n : ℕ) (lines : List (Option Why))
      → (verdict_from n lines ≡ Yes → verdict_from (n + length lines) later ≡ verdict_from (n + length lines) other)
      → verdict_from n (lines ++ later) ≡ verdict_from n (lines ++ other)
  same_after n [] same = ap (λ m. verdict_from m later) (sym (add-zero n)) ∙ same refl ∙ ap (λ m. verdict_from m other) (add-zero n)
  same_after n (None ∷ lines) same =
      let number : n + suc (length lines) ≡ n + 1 + length lines = omega arith in
      same_after (n + 1) lines
      (λ right. ap (λ m. verdict_from m later) (sym number) ∙ same right ∙ ap (λ m. verdict_from m other) number)
  same_after n (Some why ∷ lines) same = refl

pub right_after : (n : ℕ) (lines later : List (Option Why)) → verdict_from n lines ≡ Yes
    → verdict_from n (lines ++ later) ≡ verdict_from (n + length lines) later
right_after n [] later right = ap (λ m. verdict_from m later) (sym (add-zero n))
right_after n (None ∷ lines) later right =
    let number : n + 1 + length lines ≡ n + suc (length lines) = omega arith in
    right_after (n + 1) lines later right ∙ ap (λ m. verdict_from m later) number
right_after n (Some why ∷ lines) later right = absurd cc

pub wrong_after : (n : ℕ) (lines later : List (Option Why)) (line : ℕ) (why : Why) → verdict_from n lines ≡ No line why
    → verdict_from n (lines ++ later) ≡ No line why
wrong_after n [] later line why wrong = absurd cc
wrong_after n (None ∷ lines) later line why wrong = wrong_after (n + 1) lines later line why wrong
wrong_after n (Some reason ∷ lines) later line why wrong = wrong

-- the front of lines that are right is right
pub right_front : (n : ℕ) (lines later : List (Option Why)) → verdict_from n (lines ++ later) ≡ Yes → verdict_from n lines ≡ Yes
right_front n [] later right = refl
right_front n (None ∷ lines) later right = right_front (n + 1) lines later right
right_front n (Some why ∷ lines) later right = absurd cc

-- ---- lines by their indices

module _ (line : ℕ → Option Why) where
  pub all_right : (n a k : ℕ) → ((i : ℕ) → i < k → line (a + i) ≡ None) → verdict_from n (map line (range_with_len a k)) ≡ Yes
  all_right n a zero right = refl
  all_right n a (suc k) right =
      rw (ap line (sym (add-zero a)) ∙ right 0 (omega arith))
      (all_right (n + 1) (a + 1) k
      (λ i below. let e : a + 1 + i ≡ a + suc i = omega arith in ap line e ∙ right (suc i) (omega (arith, below))))

  pub first_wrong : (n a k i : ℕ) (why : Why) → i < k → ((j : ℕ) → j < i → line (a + j) ≡ None) → line (a + i) ≡ Some why
      → verdict_from n (map line (range_with_len a k)) ≡ No (n + i) why
  first_wrong n a zero i why below before here = absurd (omega (arith, below))
  first_wrong n a (suc k) zero why below before here =
      rw (ap line (sym (add-zero a)) ∙ here) (ap (λ m. No m why) (sym (add-zero n)))
  first_wrong n a (suc k) (suc i) why below before here =
      let number : n + 1 + i ≡ n + suc i = omega arith in
      rw (ap line (sym (add-zero a)) ∙ before 0 (omega arith))
      (first_wrong (n + 1) (a + 1) k i why (omega (arith, below))
      (λ j less. let e : a + 1 + j ≡ a + suc j = omega arith in ap line e ∙ before (suc j) (omega (arith, less)))
      (let e : a + 1 + i ≡ a + suc i = omega arith in ap line e ∙ here)
      ∙ ap (λ m. No m why) number)

  pub each_right : (n a k i : ℕ) → i < k → verdict_from n (map line (range_with_len a k)) ≡ Yes → line (a + i) ≡ None
  each_right n a zero i below right = absurd (omega (arith, below))
  each_right n a (suc k) i below right = by (line a) refl right i below (λ j less rest. each_right (n + 1) (a + 1) k j less rest) where
    by : (o : Option Why) → line a ≡ o → verdict_from n (o ∷ map line (range_with_len (a + 1) k)) ≡ Yes
        → (i : ℕ) → i < suc k
        → ((j : ℕ) → j < k → verdict_from (n + 1) (map line (range_with_len (a + 1) k)) ≡ Yes → line (a + 1 + j) ≡ None)
        → line (a + i) ≡ None
    by None is right zero below later = ap line (add-zero a) ∙ is
    by None is right (suc i) below later =
        let e : a + suc i ≡ a + 1 + i = omega arith in ap line e ∙ later i (omega (arith, below)) right
    by (Some why) is right i below later = absurd cc
