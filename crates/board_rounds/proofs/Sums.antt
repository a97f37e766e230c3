-- Sums over the sessions.
use Rattle.std.proofs.Common.{◌≡◌, ◌≢◌, inl, inr, ℕ, zero, suc, ◌+◌, ◌-◌, ◌*◌, ◌<◌, ◌≤◌, ◌==◌, cond, List}
use Rattle.std.proofs.Common.{[], ◌∷◌, length, All, get_or, slice_get, refl, sym, ◌∙◌, ap, subst, arith}
use Rattle.std.specs.Prelude.{unwrap_or}
use Rattle.std.specs.List.{AllPairs, sum_by}
use Rattle.std.proofs.lemmas.Bool.{cases_lt, cond-true, cond-false, eq-eqb, ne_eqb}
use Rattle.std.proofs.lemmas.List.Elements.{All-head, All-tail}
use Rattle.std.proofs.lemmas.List.Sums.{sum_by-cons}
use Rattle.board_rounds.specs.Underway.{sum_to}

module _ (f g : ℕ → ℕ) (s : ℕ) (same : (k : ℕ) → k ≢ s → g k ≡ f k) where
  -- numbers that differ only after the last session have one sum
  pub sum-beyond : (n : ℕ) → n < s → sum_to g n ≡ sum_to f n
  sum-beyond zero past = refl
  sum-beyond (suc n) past =
      let last : g (suc n) ≡ f (suc n) = same (suc n) (λ e. absurd (omega (arith, e, past))) in
      omega (arith, last, sum-beyond n (omega (arith, past)))

  -- where they differ at one session, so do the sums
  pub sum-one : (n : ℕ) → 1 ≤ s → s ≤ n → sum_to g n + f s ≡ sum_to f n + g s
  sum-one zero one upto = absurd (omega (arith, one, upto))
  sum-one (suc n) one upto = elim (cases_lt n s) [
    | inl past ↦
        let is : s ≡ suc n = omega (arith, past, upto) in
        subst (λ k. (sum_to g n + g (suc n)) + f k ≡ (sum_to f n + f (suc n)) + g k) (sym is)
        (omega (arith, sum-beyond n past))
    | inr behind ↦
        let last : g (suc n) ≡ f (suc n) = same (suc n) (λ e. absurd (omega (arith, e, behind))) in
        omega (arith, last, sum-one n one behind)
  ]

-- the same numbers have the same sum
pub sum-same : (f g : ℕ → ℕ) (n : ℕ) → ((k : ℕ) → g k ≡ f k) → sum_to g n ≡ sum_to f n
sum-same f g n same = sum-beyond f g (suc n) (λ k other. same k) n (omega arith)

-- different sessions, each with a number that isn't 0, are no more than the sum
pub sum-many : (f : ℕ → ℕ) (n : ℕ) (xs : List ℕ) → AllPairs (λ (a b : ℕ). a ≢ b) xs
    → All (λ (x : ℕ). (1 ≤ x) × (x ≤ n) × (1 ≤ f x)) xs → length xs ≤ sum_to f n
sum-many f n [] apart each = omega arith
sum-many f n (x ∷ xs) apart each =
    let Counts : ℕ → Type 0 = λ x. (1 ≤ x) × (x ≤ n) × (1 ≤ f x) in
    let here : Counts x = All-head Counts x xs each in
    let later : All Counts xs = All-tail Counts x xs each in
    let g : ℕ → ℕ = λ k. cond (k == x) 0 (f k) in
    let same : (k : ℕ) → k ≢ x → g k ≡ f k = λ k other. cond-false (k == x) 0 (f k) (ne_eqb k x other) in
    let none : g x ≡ 0 = cond-true (x == x) 0 (f x) (eq-eqb x x refl) in
    let others : All (λ (y : ℕ). (1 ≤ y) × (y ≤ n) × (1 ≤ g y)) xs =
    λ k d within.
    let y : ℕ = get_or xs k d in
    let counts : Counts y = later k d within in
    let other : y ≢ x = λ e. apart 0 (suc k) d (omega arith) (omega (arith, within)) (sym e) in
    (counts.0, counts.1, omega (arith, counts.2, same y other)) in
    let rest = sum-many g n xs (λ i j d before within. apart (suc i) (suc j) d (omega (arith, before)) (omega (arith, within))) others in
    omega (arith, rest, none, sum-one f g x same n here.0 here.1, here.2)

-- ---- one number for each element of a list

module _ {X : Type 0} (of : X → ℕ) (d : X) where
  abbrev pub at : List X → ℕ → ℕ
  at xs k = of (unwrap_or (slice_get xs (k - 1)) d)

  first_and_others : (x : X) (xs : List X) (n : ℕ) → sum_to (at (x ∷ xs)) (suc n) ≡ of x + sum_to (at xs) n
  first_and_others x xs zero = omega arith
  first_and_others x xs (suc n) =
      let behind : suc (suc n) - 1 ≡ suc n = omega arith in
      let same : n ≡ suc n - 1 = omega arith in
      let last : at (x ∷ xs) (suc (suc n)) ≡ at xs (suc n) =
      ap (λ k. of (unwrap_or (slice_get (x ∷ xs) k) d)) behind ∙ ap (λ k. of (unwrap_or (slice_get xs k) d)) same in
      omega (arith, first_and_others x xs n, last)

  pub sum-elements : (xs : List X) → sum_to (at xs) (length xs) ≡ sum_by of xs
  sum-elements [] = refl
  sum-elements (x ∷ xs) = omega (arith, first_and_others x xs (length xs), sum-elements xs, sum_by-cons of x xs)

pub sum_by-times : {X : Type 0} (of : X → ℕ) (p : ℕ) (xs : List X) → sum_by (λ x. of x * p) xs ≡ sum_by of xs * p
sum_by-times of p [] = omega arith
sum_by-times of p (x ∷ xs) =
    rw (sum_by-cons (λ x. of x * p) x xs, sum_by-cons of x xs, sum_by-times of p xs) (omega arith)
