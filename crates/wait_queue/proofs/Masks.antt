-- Masks together, and one within another.
use Rattle.std.proofs.Common.{◌≡◌, ℕ, ◌<◌, ◌^◌, cond, true, false, bit_and, bit_or, refl, ap, ◌∙◌, arith, w64}
use Rattle.std.specs.Int.{bit_at, bit_not}
use Rattle.std.proofs.lemmas.Bool.{both_ways}
use Rattle.std.proofs.lemmas.Nat.Bits.{bit_at_not}
use Rattle.cell_base.specs.Masks.{has_bit}
use Rattle.cell_base.proofs.Bits.{bit_at-number, has_bit-of_one, has_bit-and, has_bit-or, has_bit-zero}

-- a bit of the one mask stays in the two together
pub kept_bit : (a b r : ℕ) → has_bit a r ≡ true → has_bit (bit_or a b) r ≡ true
kept_bit a b r e = has_bit-or a b r ∙ rw e refl

-- where no bit of the first mask is missing in the second one, the second has them all
pub within_mask : (a b r : ℕ) → b < 2 ^ 64 → r < 64 → bit_and a (bit_not w64 b) ≡ 0 → has_bit a r ≡ true → has_bit b r ≡ true
within_mask a b r small few none has =
    elim (has_bit b r) as (λ set. has_bit b r ≡ set → set ≡ true) [
      | true ↦ λ e. refl
      | false ↦ λ e. absurd (both_ways (has_bit (bit_and a (bit_not w64 b)) r)
          (ap (λ n. has_bit n r) none ∙ has_bit-zero r)
          (has_bit-and a (bit_not w64 b) r ∙ rw (has, lacking e) refl))
    ] refl
  where
    lacking : has_bit b r ≡ false → has_bit (bit_not w64 b) r ≡ true
    lacking e =
        let zero_here : bit_at b r ≡ 0 = bit_at-number b r ∙ ap (λ x. cond {A = ℕ} x 1 0) e in
        has_bit-of_one (bit_not w64 b) r (omega (arith, bit_at_not w64 b r small few, zero_here))
