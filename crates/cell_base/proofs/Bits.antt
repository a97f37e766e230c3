-- Bits of masks that are joined, cut, set and cleared.
use Rattle.std.proofs.Common.{◌≡◌, ℕ, zero, suc, ◌+◌, ◌-◌, ◌*◌, ◌^◌, ◌%◌, ◌<◌, ◌≤◌, ◌==◌, ◌≢◌, true, false, cond}
use Rattle.std.proofs.Common.{◌||◌, ◌&&◌, min, max, bit_and, bit_or, ap, refl, sym, arith, w64, ◌∙◌, ⊎_elim}
use Rattle.std.specs.Int.{bit_at, bit_not, trailing_zeros}
use Rattle.std.proofs.lemmas.Bool.{eqb-true, eq-eqb, cases_lt}
use Rattle.std.proofs.lemmas.Nat.{and_le_l}
use Rattle.std.proofs.lemmas.Nat.Bits.{bit_at_or, bit_at_and, bit_at_not, bit_at-lt, bit_at-zero, bit_at_above, bit_at_set_same}
use Rattle.std.proofs.lemmas.Nat.Bits.{bit_at_set_other, bit_at_clear_same, bit_at_clear_other, bit_at-trailing_zeros}
use Rattle.cell_base.specs.Masks.{has_bit, bits_only_of}

greater_bit : (x y : ℕ) → x < 2 → y < 2 → (max x y == 1) ≡ ((x == 1) || (y == 1))
greater_bit zero zero h l = refl
greater_bit zero (suc zero) h l = refl
greater_bit zero (suc (suc y)) h l = absurd (omega arith)
greater_bit (suc zero) zero h l = refl
greater_bit (suc zero) (suc zero) h l = refl
greater_bit (suc zero) (suc (suc y)) h l = absurd (omega arith)
greater_bit (suc (suc x)) y h l = absurd (omega arith)

lesser_bit : (x y : ℕ) → x < 2 → y < 2 → (min x y == 1) ≡ ((x == 1) && (y == 1))
lesser_bit zero zero h l = refl
lesser_bit zero (suc zero) h l = refl
lesser_bit zero (suc (suc y)) h l = absurd (omega arith)
lesser_bit (suc zero) zero h l = refl
lesser_bit (suc zero) (suc zero) h l = refl
lesser_bit (suc zero) (suc (suc y)) h l = absurd (omega arith)
lesser_bit (suc (suc x)) y h l = absurd (omega arith)

pub has_bit-or : (a b r : ℕ) → has_bit (bit_or a b) r ≡ (has_bit a r || has_bit b r)
has_bit-or a b r = ap (λ x. x == 1) (bit_at_or a b r) ∙ greater_bit (bit_at a r) (bit_at b r) (bit_at-lt a r) (bit_at-lt b r)

pub has_bit-and : (a b r : ℕ) → has_bit (bit_and a b) r ≡ (has_bit a r && has_bit b r)
has_bit-and a b r = ap (λ x. x == 1) (bit_at_and a b r) ∙ lesser_bit (bit_at a r) (bit_at b r) (bit_at-lt a r) (bit_at-lt b r)

pub has_bit-zero : (r : ℕ) → has_bit 0 r ≡ false
has_bit-zero r = ap (λ x. x == 1) (bit_at-zero r)

pub has_bit_set_same : (a k : ℕ) → k < 64 → has_bit (bit_or a (1 * 2 ^ k % 2 ^ 64)) k ≡ true
has_bit_set_same a k h = ap (λ x. x == 1) (bit_at_set_same w64 a k h)

pub has_bit_set_other : (a k r : ℕ) → k < 64 → r ≢ k → has_bit (bit_or a (1 * 2 ^ k % 2 ^ 64)) r ≡ has_bit a r
has_bit_set_other a k r h other = ap (λ x. x == 1) (bit_at_set_other w64 a k h r other)

pub has_bit_clear_same : (a k : ℕ) → k < 64 → has_bit (bit_and a (bit_not w64 (1 * 2 ^ k % 2 ^ 64))) k ≡ false
has_bit_clear_same a k h = ap (λ x. x == 1) (bit_at_clear_same w64 a k h)

pub has_bit_clear_other : (a k r : ℕ) → k < 64 → r < 64 → r ≢ k → has_bit (bit_and a (bit_not w64 (1 * 2 ^ k % 2 ^ 64))) r ≡ has_bit a r
has_bit_clear_other a k r h within other = ap (λ x. x == 1) (bit_at_clear_other w64 a k h r within other)

-- a bit as a number, and as a test
pub bit_at-of_set : (a r : ℕ) → has_bit a r ≡ true → bit_at a r ≡ 1
bit_at-of_set a r e = eqb-true (bit_at a r) 1 e

pub has_bit-of_one : (a r : ℕ) → bit_at a r ≡ 1 → has_bit a r ≡ true
has_bit-of_one a r e = eq-eqb (bit_at a r) 1 e

as_number : (x : ℕ) → x < 2 → x ≡ cond (x == 1) 1 0
as_number zero h = refl
as_number (suc zero) h = refl
as_number (suc (suc x)) h = absurd (omega arith)

pub bit_at-number : (a r : ℕ) → bit_at a r ≡ cond (has_bit a r) 1 0
bit_at-number a r = as_number (bit_at a r) (bit_at-lt a r)

-- a mask without its lowest bit r
pub record IsWithoutLowest (a r rest : ℕ) : Type 0 where
  pub within : r < 64
  pub here : bit_at a r ≡ 1
  pub gone : bit_at rest r ≡ 0
  pub others : (q : ℕ) → q ≢ r → bit_at rest q ≡ bit_at a q
  pub less : rest < a

pub without_lowest : (a : ℕ) → 0 < a → a < 2 ^ 64
    → IsWithoutLowest a (trailing_zeros w64 a) (bit_and a (bit_not w64 (1 * 2 ^ (trailing_zeros w64 a) % 2 ^ 64)))
without_lowest a some fits =
    let lowest = bit_at-trailing_zeros w64 a some fits in
    at (trailing_zeros w64 a) lowest.0 lowest.1
  where
    at : (r : ℕ) → r < 64 → bit_at a r ≡ 1 → IsWithoutLowest a r (bit_and a (bit_not w64 (1 * 2 ^ r % 2 ^ 64)))
    at r within here = record {
      within = within;
      here = here;
      gone = gone;
      others = λ q other. ⊎_elim (λ below. bit_at_clear_other w64 a r within q below other) (above q) (cases_lt q 64);
      less = less (bit_and a (bit_not w64 (1 * 2 ^ r % 2 ^ 64))) gone at_most;
    }
      where
        gone : bit_at (bit_and a (bit_not w64 (1 * 2 ^ r % 2 ^ 64))) r ≡ 0
        gone = bit_at_clear_same w64 a r within

        at_most : bit_and a (bit_not w64 (1 * 2 ^ r % 2 ^ 64)) ≤ a
        at_most = and_le_l a (bit_not w64 (1 * 2 ^ r % 2 ^ 64))

        above : (q : ℕ) → 64 ≤ q → bit_at (bit_and a (bit_not w64 (1 * 2 ^ r % 2 ^ 64))) q ≡ bit_at a q
        above q high = bit_at_above _ 64 q (omega (arith, at_most, fits)) high ∙ sym (bit_at_above a 64 q fits high)

        less : (rest : ℕ) → bit_at rest r ≡ 0 → rest ≤ a → rest < a
        less rest away most =
            let differ : rest ≢ a = λ same. absurd (omega (arith, away, here, ap (λ n. bit_at n r) same)) in
            omega (arith, differ, most)

-- the bits that one mask alone has
lesser_with : (x y : ℕ) → x < 2 → y < 2 → min x (1 - y) + y ≡ max x y
lesser_with x y h l = omega arith

pub bit_at-only : (a b r : ℕ) → a < 2 ^ 64 → b < 2 ^ 64 → bit_at (bits_only_of a b) r + bit_at b r ≡ max (bit_at a r) (bit_at b r)
bit_at-only a b r fits other = ⊎_elim below above (cases_lt r 64)
  where
    below : r < 64 → bit_at (bits_only_of a b) r + bit_at b r ≡ max (bit_at a r) (bit_at b r)
    below h =
        rw (bit_at_and a (bit_not w64 b) r, bit_at_not w64 b r other h)
        (lesser_with (bit_at a r) (bit_at b r) (bit_at-lt a r) (bit_at-lt b r))

    above : 64 ≤ r → bit_at (bits_only_of a b) r + bit_at b r ≡ max (bit_at a r) (bit_at b r)
    above h =
        let none = bit_at_above a 64 r fits h in
        let none_here = bit_at_above b 64 r other h in
        let none_there = bit_at_above (bits_only_of a b) 64 r (omega (arith, and_le_l a (bit_not w64 b), fits)) h in
        omega (arith, none, none_here, none_there)
