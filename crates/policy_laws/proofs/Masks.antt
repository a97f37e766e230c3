-- The bits of a mask: a sum of different powers of two has just their bits.
use Rattle.std.proofs.Common.{◌≡◌, ℕ, zero, suc, ◌+◌, ◌-◌, ◌*◌, ◌^◌, ◌<◌, ◌≤◌, ◌==◌, Bool, true, false, cond}
use Rattle.std.proofs.Common.{List, length, get_or, ap, refl, sym, subst, ◌∙◌, ⊎_elim, pow-suc, arith}
use Rattle.std.specs.List.{sum_by, range_with_len}
use Rattle.std.specs.Int.{bit_at}
use Rattle.std.proofs.Math.Pow.{pow_mono}
use Rattle.std.proofs.lemmas.Bool.{cases_lt}
use Rattle.std.proofs.lemmas.List.{length-map, get_or-map}
use Rattle.std.proofs.lemmas.List.Sums.{sum_by_push}
use Rattle.std.proofs.lemmas.Nat.Bits.{bit_at_cat_low, bit_at_cat_high, bit_at_above, same_from_bits}
use Rattle.cell_base.specs.declared.cells.Cell.{Cell}
use Rattle.cell_base.specs.Stages.{Stage, stage, IsStage, stages}
use Rattle.cell_base.specs.Numbers.{IsNumber, number_of, stage_numbered}
use Rattle.cell_base.specs.Masks.{has_bit}
use Rattle.cell_base.specs.Neighborhoods.{leads, mask_of, masks_of}
use Rattle.cell_base.specs.Fits.{CellFits}
use Rattle.cell_base.proofs.Bits.{bit_at-number}
use Rattle.policy_laws.specs.Laws.{MaskLaw}
use Rattle.lists.proofs.Growing.{numbers_more}
use Rattle.cell_base.proofs.Numbering.{numbering_law}
use Rattle.policy_laws.proofs.Leading.{leads-resource}

-- the bits below n that pass a test
abbrev bits_below : (ℕ → Bool) → ℕ → ℕ
bits_below test n = sum_by (λ r. cond (test r) (2 ^ r) 0) (range_with_len 0 n)

-- the mask has the bits below n that pass
pub record AreBits (test : ℕ → Bool) (n mask : ℕ) : Type 0 where
  pub small : mask < 2 ^ n
  pub bits : (r : ℕ) → r < n → has_bit mask r ≡ test r

bits_below-next : (test : ℕ → Bool) (n : ℕ) → bits_below test (n + 1) ≡ bits_below test n + cond (test n) (2 ^ n) 0
bits_below-next test n =
    ap (sum_by (λ r. cond (test r) (2 ^ r) 0)) (numbers_more n) ∙ sum_by_push (λ r. cond (test r) (2 ^ r) 0) (range_with_len 0 n) n

-- the greatest power of two is a bit of its own
power_low : (n m r : ℕ) → r < n → has_bit (m + 2 ^ n) r ≡ has_bit m r
power_low n m r low =
    let one : m + 2 ^ n ≡ 1 * 2 ^ n + m = omega arith in
    ap (λ x. x == 1) (ap (λ a. bit_at a r) one ∙ bit_at_cat_low 1 n m r low)

power_here : (n m : ℕ) → m < 2 ^ n → has_bit (m + 2 ^ n) n ≡ true
power_here n m small =
    let one : m + 2 ^ n ≡ 1 * 2 ^ n + m = omega arith in
    let none : n - n ≡ 0 = omega arith in
    ap (λ x. x == 1) (ap (λ a. bit_at a n) one ∙ bit_at_cat_high 1 n m n small (omega arith) ∙ ap (bit_at 1) none)

has_bit-above : (n m r : ℕ) → m < 2 ^ n → n ≤ r → has_bit m r ≡ false
has_bit-above n m r small above = ap (λ x. x == 1) (bit_at_above m n r small above)

-- one bit more
pub with_bit : (test : ℕ → Bool) (n m : ℕ) (b : Bool) → test n ≡ b → AreBits test n m → AreBits test (suc n) (m + cond b (2 ^ n) 0)
with_bit test n m true e so_far = record {
  small = omega (arith, so_far.small, pow-suc 2 n);
  bits = λ r within. ⊎_elim
      (λ (low : r < n). power_low n m r low ∙ so_far.bits r low)
      (λ (high : n ≤ r). let same : r ≡ n = omega arith in rw same (power_here n m so_far.small ∙ sym e))
      (cases_lt r n);
}
with_bit test n m false e so_far = record {
  small = omega (arith, so_far.small, pow-suc 2 n);
  bits = λ r within.
      let none : m + 0 ≡ m = omega arith in
      ap (λ a. has_bit a r) none
      ∙ ⊎_elim
      (λ (low : r < n). so_far.bits r low)
      (λ (high : n ≤ r). let same : r ≡ n = omega arith in rw same (has_bit-above n m n so_far.small (omega arith) ∙ sym e))
      (cases_lt r n);
}

are_bits : (test : ℕ → Bool) (n : ℕ) → AreBits test n (bits_below test n)
are_bits test zero = record { small = omega arith; bits = λ r within. absurd (omega arith) }
are_bits test (suc n) =
    let next : suc n ≡ n + 1 = omega arith in
    subst (AreBits test (suc n)) (sym (ap (bits_below test) next ∙ bits_below-next test n))
    (with_bit test n (bits_below test n) (test n) refl (are_bits test n))

-- the masks of all stages, by the numbers of the stages
pub length-masks_of : (cell : Cell) → length (masks_of cell) ≡ length (stages cell)
length-masks_of cell = length-map (stages cell) (mask_of cell)

pub mask_at_number : (cell : Cell) (n : ℕ) → IsNumber cell n → get_or (masks_of cell) n 0 ≡ mask_of cell (stage_numbered cell n)
mask_at_number cell n within = get_or-map (mask_of cell) (stages cell) n (stage 0 0) 0 within

pub stage_has_mask : (cell : Cell) (s : Stage) → IsStage cell s → number_of cell s < length (masks_of cell)
stage_has_mask cell s standing = omega (arith, (numbering_law cell).numbers s standing, length-masks_of cell)

pub mask_at_stage : (cell : Cell) (s : Stage) → IsStage cell s → get_or (masks_of cell) (number_of cell s) 0 ≡ mask_of cell s
mask_at_stage cell s standing =
    mask_at_number cell (number_of cell s) ((numbering_law cell).numbers s standing)
    ∙ ap (mask_of cell) ((numbering_law cell).numbered s standing)

module _ (cell : Cell) (fits : CellFits cell) where
  pub mask_law : MaskLaw cell
  mask_law s r = ⊎_elim (bits.bits r) above (cases_lt r (length cell.resources))
    where
      bits : AreBits (leads cell s) (length cell.resources) (mask_of cell s)
      bits = are_bits (leads cell s) (length cell.resources)

      nowhere : (b : Bool) → leads cell s r ≡ b → length cell.resources ≤ r → false ≡ b
      nowhere true e past = absurd (omega (arith, leads-resource cell fits r s e))
      nowhere false e past = refl

      above : length cell.resources ≤ r → has_bit (mask_of cell s) r ≡ leads cell s r
      above past = has_bit-above (length cell.resources) (mask_of cell s) r bits.small past ∙ nowhere (leads cell s r) refl past

  -- it fits 64 bits
  pub mask_of-small : (s : Stage) → mask_of cell s < 2 ^ 64
  mask_of-small s =
      omega (
        arith,
        (are_bits (leads cell s) (length cell.resources)).small,
        pow_mono {i = length cell.resources} {j = 64} fits.resource_count.1,
      )

  -- what a part at the stage counts
  pub bit_at-mask_of : (s : Stage) (r : ℕ) → bit_at (mask_of cell s) r ≡ cond (leads cell s r) 1 0
  bit_at-mask_of s r = bit_at-number (mask_of cell s) r ∙ ap (λ b. cond b 1 0) (mask_law s r)

  -- a number with these bits is the mask
  pub mask_from_bits : (s : Stage) (mask : ℕ) → ((r : ℕ) → has_bit mask r ≡ leads cell s r) → mask ≡ mask_of cell s
  mask_from_bits s mask bits =
      same_from_bits mask (mask_of cell s)
      (λ r. bit_at-number mask r ∙ ap (λ b. cond b 1 0) (bits r ∙ sym (mask_law s r)) ∙ sym (bit_at-number (mask_of cell s) r))

  pub bit_at_number : (masks : List ℕ) → masks ≡ masks_of cell → (n r : ℕ) → IsNumber cell n
      → has_bit (get_or masks n 0) r ≡ leads cell (stage_numbered cell n) r
  bit_at_number masks made n r within =
      ap (λ (ms : List ℕ). has_bit (get_or ms n 0) r) made
      ∙ ap (λ mask. has_bit mask r) (mask_at_number cell n within)
      ∙ mask_law (stage_numbered cell n) r
