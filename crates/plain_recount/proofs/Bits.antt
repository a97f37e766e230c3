-- Bits that one mask has and another one hasn't, the lowest bit of a mask, and a mask that is made bit by bit.
use Rattle.std.proofs.Common.{◌≡◌, ℕ, zero, suc, ◌+◌, ◌^◌, ◌<◌, ◌≤◌, ◌==◌, ◌≢◌, Bool, true, false, cond, not, ◌&&◌, max, w64}
use Rattle.std.proofs.Common.{pow-suc, ap, refl, sym, subst, ◌∙◌, ⊎_elim, arith}
use Rattle.std.specs.Int.{bit_at, trailing_zeros}
use Rattle.std.specs.List.{range_with_len, sum_by}
use Rattle.std.proofs.Math.Pow.{pow_mono}
use Rattle.std.proofs.lemmas.Bool.{cases_eq}
use Rattle.std.proofs.lemmas.List.Sums.{sum_by_push}
use Rattle.std.proofs.lemmas.Nat.Bits.{bit_at-lt}
use Rattle.cell_base.specs.Masks.{has_bit, bits_only_of}
use Rattle.cell_base.proofs.Bits.{IsWithoutLowest, bit_at-of_set, bit_at-only, has_bit-of_one, without_lowest}
use Rattle.lists.proofs.Growing.{numbers_more}

lone_bit : (x a b : ℕ) → x < 2 → a < 2 → b < 2 → x + b ≡ max a b → (x == 1) ≡ ((a == 1) && not (b == 1))
lone_bit zero zero zero h k l e = refl
lone_bit zero zero (suc zero) h k l e = refl
lone_bit zero (suc zero) zero h k l e = absurd (omega arith)
lone_bit zero (suc zero) (suc zero) h k l e = refl
lone_bit (suc zero) zero zero h k l e = absurd (omega arith)
lone_bit (suc zero) zero (suc zero) h k l e = absurd (omega arith)
lone_bit (suc zero) (suc zero) zero h k l e = refl
lone_bit (suc zero) (suc zero) (suc zero) h k l e = absurd (omega arith)
lone_bit (suc (suc x)) a b h k l e = absurd (omega arith)
lone_bit x (suc (suc a)) b h k l e = absurd (omega arith)
lone_bit x a (suc (suc b)) h k l e = absurd (omega arith)

pub has_bit-only : (a b r : ℕ) → a < 2 ^ 64 → b < 2 ^ 64 → has_bit (bits_only_of a b) r ≡ (has_bit a r && not (has_bit b r))
has_bit-only a b r fits other =
    lone_bit (bit_at (bits_only_of a b) r) (bit_at a r) (bit_at b r) (bit_at-lt _ r) (bit_at-lt a r) (bit_at-lt b r)
    (bit_at-only a b r fits other)

-- the lowest bit of a mask that has one
pub lowest_bit : (mask : ℕ) → 0 < mask → mask < 2 ^ 64 → has_bit mask (trailing_zeros w64 mask) ≡ true
lowest_bit mask some fits = has_bit-of_one _ _ (without_lowest mask some fits).here

-- the bits of a mask without its lowest one
module _ (mask r rest : ℕ) (step : IsWithoutLowest mask r rest) (k : ℕ) where
  pub bit_kept : has_bit rest k ≡ true → has_bit mask k ≡ true
  bit_kept e =
      ⊎_elim
      (λ (same : k ≡ r). absurd (omega (arith, bit_at-of_set rest k e, step.gone, ap (bit_at rest) same)))
      (λ (other : k ≢ r). sym (ap (λ n. n == 1) (step.others k other)) ∙ e)
      (cases_eq k r)

  pub bit_gone : has_bit rest k ≡ false → k ≢ r → has_bit mask k ≡ false
  bit_gone e other = sym (ap (λ n. n == 1) (step.others k other)) ∙ e

-- the bits below n that pass a test, as a number
module _ (test : ℕ → Bool) where
  abbrev pub bits_below : ℕ → ℕ
  bits_below n = sum_by (λ r. cond (test r) (2 ^ r) 0) (range_with_len 0 n)

  pub bits_below-next : (n : ℕ) → bits_below (n + 1) ≡ bits_below n + cond (test n) (2 ^ n) 0
  bits_below-next n =
      ap (sum_by (λ r. cond (test r) (2 ^ r) 0)) (numbers_more n) ∙ sum_by_push (λ r. cond (test r) (2 ^ r) 0) (range_with_len 0 n) n

  pub bits_below-small : (n : ℕ) → bits_below n < 2 ^ n
  bits_below-small zero = omega arith
  bits_below-small (suc n) =
      let next : suc n ≡ n + 1 = omega arith in
      subst (λ m. m < 2 ^ suc n) (sym (ap bits_below next ∙ bits_below-next n)) (one_more (test n) (bits_below-small n))
    where
      one_more : (b : Bool) → bits_below n < 2 ^ n → bits_below n + cond b (2 ^ n) 0 < 2 ^ suc n
      one_more true so_far = omega (arith, pow-suc 2 n)
      one_more false so_far = omega (arith, pow-suc 2 n)

-- one bit more fits 64 bits
pub power_fits : (r : ℕ) → r < 64 → 2 ^ r + 2 ^ r ≤ 2 ^ 64
power_fits r within = omega (arith, pow-suc 2 r, pow_mono {i = suc r} {j = 64} (omega arith))
