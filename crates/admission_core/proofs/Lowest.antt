-- The marked ranks taken from the lowest on.
use Rattle.std.proofs.Common.{◌≡◌, ℕ, ◌<◌, ◌≤◌, ◌==◌, ◌*◌, ◌%◌, ◌^◌, false, List, length, get_or, None, find, bit_and}
use Rattle.std.proofs.Common.{ap, subst, sym, arith, w64, ◌∙◌, ⊎_elim}
use Rattle.std.specs.Int.{bit_at, bit_not, trailing_zeros}
use Rattle.std.proofs.lemmas.Bool.{cases_eq}
use Rattle.std.proofs.lemmas.Nat.Bits.{bit_at-trailing_zeros, bit_at-lt}
use Rattle.cell_base.specs.declared.cells.Cell.{Cell}
use Rattle.cell_base.specs.declared.cells.ResId.{ResId}
use Rattle.cell_base.specs.declared.requests.Part.{Part}
use Rattle.cell_base.specs.Masks.{has_bit}
use Rattle.cell_base.specs.Plans.{resource_of_part}
use Rattle.cell_base.proofs.Bits.{IsWithoutLowest, without_lowest, has_bit-of_one, has_bit-zero}
use Rattle.admission_core.specs.Occupied.{Marked, IsOfRanks, IsMarked}
use Rattle.admission_core.proofs.Marking.{none_shown}

-- the bits that are left are marked, and no part stands on the resource of another rank
pub record IsLeft (cell : Cell) (parts : List Part) (marked : Marked) (left : ℕ) : Type 0 where
  pub only : (k : ℕ) → bit_at left k ≤ bit_at marked.mask k
  pub free : (k : ℕ) (d : ResId) → k < length marked.ranks → has_bit left k ≡ false
      → find (λ part. resource_of_part cell part == (get_or marked.ranks k d).0) parts ≡ None

module _ (cell : Cell) (parts : List Part) (marked : Marked) where
  -- at first all that are marked are left
  pub left_all : (left : ℕ) → left ≡ marked.mask → IsMarked cell parts marked → IsLeft cell parts marked left
  left_all left same is = rw same (record { only = λ k. omega arith; free = none_shown cell parts marked is })

  module _ (left : ℕ) (is : IsLeft cell parts marked left) (some : 0 < left) (fits : left < 2 ^ 64) where
    step : IsWithoutLowest left (trailing_zeros w64 left) (bit_and left (bit_not w64 (1 * 2 ^ (trailing_zeros w64 left) % 2 ^ 64)))
    step = without_lowest left some fits

    -- the lowest is the bit of a rank
    pub lowest_within : IsOfRanks marked.ranks marked.mask → trailing_zeros w64 left < length marked.ranks
    lowest_within of =
        let r = trailing_zeros w64 left in
        of r (has_bit-of_one marked.mask r (omega (arith, step.here, is.only r, bit_at-lt marked.mask r)))

    -- no part stands on the resource of a lower rank
    pub free_below : (k : ℕ) (d : ResId) → k < trailing_zeros w64 left → k < length marked.ranks
        → find (λ part. resource_of_part cell part == (get_or marked.ranks k d).0) parts ≡ None
    free_below k d below within =
        is.free k d within (ap (λ n. n == 1) ((bit_at-trailing_zeros w64 left some fits).2 k below))

    -- where it is free, the others are left
    pub left_less : ((d : ResId) → trailing_zeros w64 left < length marked.ranks
        → find (λ part. resource_of_part cell part == (get_or marked.ranks (trailing_zeros w64 left) d).0) parts ≡ None)
        → IsLeft cell parts marked (bit_and left (bit_not w64 (1 * 2 ^ (trailing_zeros w64 left) % 2 ^ 64)))
    left_less nobody = record {
      only = λ k. ⊎_elim (λ (same : k ≡ trailing_zeros w64 left).
          subst (λ q. bit_at rest q ≤ bit_at marked.mask q) (sym same) (omega (arith, step.gone)))
          (λ away. omega (arith, step.others k away, is.only k)) (cases_eq k (trailing_zeros w64 left));
      free = λ k d within unset. ⊎_elim
          (λ (same : k ≡ trailing_zeros w64 left).
          subst (λ q. find (λ part. resource_of_part cell part == (get_or marked.ranks q d).0) parts ≡ None) (sym same)
          (nobody d (subst (λ q. q < length marked.ranks) same within)))
          (λ away. is.free k d within (sym (ap (λ n. n == 1) (step.others k away)) ∙ unset)) (cases_eq k (trailing_zeros w64 left));
    }
      where
        rest : ℕ
        rest = bit_and left (bit_not w64 (1 * 2 ^ (trailing_zeros w64 left) % 2 ^ 64))

  -- at last no part is left
  pub left_none : (left : ℕ) → left ≡ 0 → IsLeft cell parts marked left → (k : ℕ) (d : ResId) → k < length marked.ranks
      → find (λ part. resource_of_part cell part == (get_or marked.ranks k d).0) parts ≡ None
  left_none left none is k d within = is.free k d within (ap (λ n. has_bit n k) none ∙ has_bit-zero k)
