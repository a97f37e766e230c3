-- Sums over the numbers below n.
use Rattle.std.proofs.Common.{◌≡◌, ℕ, zero, suc, ◌+◌, ◌<◌, ◌≤◌, ⊎_elim, arith}
use Rattle.std.proofs.lemmas.Bool.{cases_order}

-- the sum of f over the numbers below n
abbrev pub total : (ℕ → ℕ) → ℕ → ℕ
total f zero = 0
total f (suc n) = total f n + f n

-- no term is greater
pub total-le : (f g : ℕ → ℕ) (n : ℕ) → ((k : ℕ) → k < n → f k ≤ g k) → total f n ≤ total g n
total-le f g zero le = omega arith
total-le f g (suc n) le = omega (arith, total-le f g n (λ k h. le k (omega arith)), le n (omega arith))

-- one more at a number below n
pub total-lt : (f g : ℕ → ℕ) (n k : ℕ) → ((j : ℕ) → j < n → f j ≤ g j) → k < n → f k + 1 ≤ g k → total f n + 1 ≤ total g n
total-lt f g zero k le within more = absurd (omega arith)
total-lt f g (suc n) k le within more =
    ⊎_elim
    (λ (here : k ≡ n).
    let at : f n + 1 ≤ g n = rw (← here) more in omega (arith, total-le f g n (λ j h. le j (omega arith)), at))
    (λ other. omega (arith, total-lt f g n k (λ j h. le j (omega arith)) (omega arith) more, le n (omega arith)))
    (cases_order k n)
