-- Numbers to base 16, and the lists of their digits.
use Rattle.std.proofs.Common.{◌≡◌, ℕ, zero, suc, ◌+◌, ◌-◌, ◌*◌, ◌/◌, ◌%◌, ◌^◌, ◌<◌, ◌≤◌, ◌≢◌, ap, ap₂, refl, sym}
use Rattle.std.proofs.Common.{subst, ◌∙◌, ⊎_elim, arith}
use Rattle.std.proofs.Math.Nat.{div-div-eq-div-mul}
use Rattle.std.proofs.lemmas.Nat.{div-mul-add, mod-mul-add, pow-add}
use Rattle.std.proofs.lemmas.Bool.{cases_eq}
use Rattle.order_advisor.specs.Sets.{power_of_16}
use Rattle.policy_laws.proofs.Totals.{total}

-- the number with these digits after a number
abbrev pub numeral : ℕ → (ℕ → ℕ) → ℕ → ℕ
numeral front digit zero = front
numeral front digit (suc n) = 16 * numeral front digit n + digit n

pub power_of_16-suc : (n : ℕ) → power_of_16 (suc n) ≡ 16 * power_of_16 n
power_of_16-suc n =
    let e : 4 * suc n ≡ 4 + 4 * n = omega arith in
    ap (λ k. 2 ^ k) e ∙ pow-add 2 4 (4 * n)

pub power_of_16-positive : (n : ℕ) → 1 ≤ power_of_16 n
power_of_16-positive zero = omega arith
power_of_16-positive (suc n) = omega (arith, power_of_16-suc n, power_of_16-positive n)

pub power_of_16-le : (n m : ℕ) → n ≤ m → power_of_16 n ≤ power_of_16 m
power_of_16-le n zero below = let e : n ≡ 0 = omega arith in omega (arith, ap power_of_16 e)
power_of_16-le n (suc m) below = ⊎_elim
    (λ (e : n ≡ suc m). omega (arith, ap power_of_16 e))
    (λ (other : n ≢ suc m). omega (arith, power_of_16-suc m, power_of_16-le n m (omega (arith, other, below))))
    (cases_eq n (suc m))

-- a number that is less stays less with more digits after it
pub numeral-less : (f g : ℕ) (o p : ℕ → ℕ) (k n : ℕ) → ((q : ℕ) → q < n → o q < 16) → k ≤ n → numeral f o k < numeral g p k
    → numeral f o n < numeral g p n
numeral-less f g o p k zero small within less = let e : k ≡ 0 = omega arith in subst (λ j. numeral f o j < numeral g p j) e less
numeral-less f g o p k (suc n) small within less = ⊎_elim
    (λ (e : k ≡ suc n). subst (λ j. numeral f o j < numeral g p j) e less)
    (λ (other : k ≢ suc n).
    let before = numeral-less f g o p k n (λ q h. small q (omega arith)) (omega (arith, other, within)) less in
    omega (arith, before, small n (omega arith)))
    (cases_eq k (suc n))

pub numeral-same : (f : ℕ) (o p : ℕ → ℕ) (n : ℕ) → ((q : ℕ) → q < n → o q ≡ p q) → numeral f o n ≡ numeral f p n
numeral-same f o p zero same = refl
numeral-same f o p (suc n) same = let before = numeral-same f o p n (λ q h. same q (omega arith)) in omega (
  arith,
  before,
  same n
      (omega arith),
)

-- the number without its last digits
pub numeral_cut : (f : ℕ) (o : ℕ → ℕ) (n j : ℕ) → ((q : ℕ) → q < n + j → o q < 16) → numeral f o (n + j) / power_of_16 j ≡ numeral f o n
numeral_cut f o n zero small =
    let e : n + 0 ≡ n = omega arith in
    let whole : numeral f o n / 1 ≡ numeral f o n = omega arith in
    ap (λ k. numeral f o k / 1) e ∙ whole
numeral_cut f o n (suc j) small =
    let e : n + suc j ≡ suc (n + j) = omega arith in
    let turned : 16 * numeral f o (n + j) + o (n + j) ≡ numeral f o (n + j) * 16 + o (n + j) = omega arith in
    ap₂ (λ k h. numeral f o k / h) e (power_of_16-suc j)
    ∙ sym (div-div-eq-div-mul (numeral f o (suc (n + j))) 16 (power_of_16 j))
    ∙ ap (λ x. x / power_of_16 j) (ap (λ x. x / 16) turned ∙ div-mul-add (numeral f o (n + j)) 16 (o (n + j)) (small (n + j) (omega arith)))
    ∙ numeral_cut f o n j (λ q h. small q (omega arith))

-- each of its digits
pub numeral_digit : (f : ℕ) (o : ℕ → ℕ) (n r : ℕ) → ((q : ℕ) → q < n → o q < 16) → r < n
    → numeral f o n / power_of_16 (n - 1 - r) % 16 ≡ o r
numeral_digit f o n r small within =
    let e : n ≡ suc r + (n - 1 - r) = omega arith in
    let turned : 16 * numeral f o r + o r ≡ numeral f o r * 16 + o r = omega arith in
    ap (λ k. numeral f o k / power_of_16 (n - 1 - r) % 16) e
    ∙ ap (λ x. x % 16) (numeral_cut f o (suc r) (n - 1 - r) (λ q h. small q (omega arith)))
    ∙ ap (λ x. x % 16) turned
    ∙ mod-mul-add (numeral f o r) 16 (o r) (small r within)

-- the number as a sum
pub numeral-total : (f : ℕ) (o : ℕ → ℕ) (n m : ℕ) → m ≤ n
    → numeral f o m * power_of_16 (n - m) ≡ f * power_of_16 n + total (λ q. o q * power_of_16 (n - 1 - q)) m
numeral-total f o n zero within =
    let e : n - 0 ≡ n = omega arith in
    let whole : f * power_of_16 (n - 0) ≡ f * power_of_16 n = ap (λ k. f * power_of_16 k) e in
    omega (arith, whole)
numeral-total f o n (suc m) within =
    let e : n - m ≡ suc (n - suc m) = omega arith in
    let before = sym (ap (λ h. numeral f o m * h) (ap power_of_16 e ∙ power_of_16-suc (n - suc m))) ∙ numeral-total f o n m (omega arith) in
    let same : n - 1 - m ≡ n - suc m = omega arith in
    let last : o m * power_of_16 (n - 1 - m) ≡ o m * power_of_16 (n - suc m) = ap (λ k. o m * power_of_16 k) same in
    omega (arith, before, last)
