-- The first full neighborhood of a mask is the first that would hold too many parts.
use Rattle.std.proofs.Common.{◌≡◌, ℕ, ◌+◌, ◌<◌, ◌≤◌, ap₂, refl, Bool, true, false, cond, ◌&&◌, nat_lt, nat_le, max}
use Rattle.std.proofs.Common.{List, [], ◌∷◌, ◌++◌, length, Contains, find, get_or, ap, sym, ◌∙◌, ⊎_elim, arith}
use Rattle.std.specs.List.{range_with_len}
use Rattle.std.specs.Int.{bit_at}
use Rattle.std.proofs.lemmas.Bool.{cases_lt, lt-ltb, le-ltb, le-leb, lt-leb}
use Rattle.cell_base.specs.declared.cells.Cell.{Cell}
use Rattle.cell_base.specs.declared.requests.Part.{Part}
use Rattle.cell_base.specs.Masks.{has_bit, bits_only_of}
use Rattle.cell_base.specs.Stages.{Stage, stage_of, capacity_of}
use Rattle.cell_base.specs.Neighborhoods.{mask_of, count}
use Rattle.cell_base.specs.Policy.{HaveDistinctJobs, first_over}
use Rattle.cell_base.specs.Outcomes.{without}
use Rattle.cell_base.specs.Fits.{CellFits}
use Rattle.cell_base.proofs.Admission.{all_numbers}
use Rattle.cell_base.proofs.Bits.{bit_at-of_set, bit_at-only, bit_at-number, has_bit-of_one}
use Rattle.policy_laws.proofs.Lists.{find_agree}
use Rattle.policy_laws.proofs.Leading.{leads-resource}
use Rattle.policy_laws.proofs.Masks.{mask_law, mask_of-small, bit_at-mask_of}
use Rattle.policy_laws.proofs.States.{share, share-le, IsWithinCapacity, count_push, count-without}
use Rattle.neighborhood_counts.specs.Counts.{Counted, first_full, IsMaskOf, AreHeld}
use Rattle.admission_core.specs.CoreState.{AreCounts}

-- the test of a bit and of a full neighborhood, against the test of the next count
over_by : (bit : Bool) (units now next : ℕ) → now ≤ units → (bit ≡ true → next ≡ now + 1) → (bit ≡ false → next ≤ now)
    → (bit && nat_le units now) ≡ nat_lt units next
over_by true units now next within more same =
    let one : next ≡ now + 1 = more refl in
    ⊎_elim
    (λ (h : now < units). lt-leb units now h ∙ sym (le-ltb units next (omega arith)))
    (λ (h : units ≤ now). le-leb units now h ∙ sym (lt-ltb units next (omega arith)))
    (cases_lt now units)
over_by false units now next within more same = let none : next ≤ now = same refl in sym (le-ltb units next (omega arith))

module _ (cell : Cell) (fits : CellFits cell) (held : Counted) (parts : List Part) (are : AreCounts cell parts held) where
  pub first_full_over : (mask : ℕ) (next : List Part) → IsWithinCapacity cell parts
      → ((r : ℕ) → has_bit mask r ≡ true → count cell next r ≡ count cell parts r + 1)
      → ((r : ℕ) → has_bit mask r ≡ false → count cell next r ≤ count cell parts r)
      → first_full held mask ≡ first_over cell next
  first_full_over mask next within more same =
      ap (λ n. find (λ r. has_bit mask r && nat_le (get_or held.capacities r 0) (get_or held.counts r 0)) (range_with_len 0 n)) are.complete
      ∙ find_agree (λ r. has_bit mask r && nat_le (get_or held.capacities r 0) (get_or held.counts r 0))
      (λ r. nat_lt (capacity_of cell r) (count cell next r)) (range_with_len 0 (length cell.resources))
      (all_numbers (length cell.resources)
      (λ r. (has_bit mask r && nat_le (get_or held.capacities r 0) (get_or held.counts r 0))
      ≡ nat_lt (capacity_of cell r) (count cell next r))
      (λ r h. ap (λ units. has_bit mask r && nat_le units (get_or held.counts r 0)) (are.capacities r h)
      ∙ ap (λ now. has_bit mask r && nat_le (capacity_of cell r) now) (are.each r h)
      ∙ over_by (has_bit mask r) (capacity_of cell r) (count cell parts r) (count cell next r) (within r h) (more r) (same r)))

  -- what a mask counts
  bit_one : (s : Stage) (r : ℕ) → has_bit (mask_of cell s) r ≡ true → share cell r s ≡ 1
  bit_one s r e = ap (λ b. cond {A = ℕ} b 1 0) (sym (mask_law cell fits s r) ∙ e)

  bit_none : (s : Stage) (r : ℕ) → has_bit (mask_of cell s) r ≡ false → share cell r s ≡ 0
  bit_none s r e = ap (λ b. cond {A = ℕ} b 1 0) (sym (mask_law cell fits s r) ∙ e)

  -- a part that enters
  pub entry_over : (part : Part) → IsWithinCapacity cell parts
      → first_full held (mask_of cell (stage_of part)) ≡ first_over cell (parts ++ part ∷ [])
  entry_over part within =
      first_full_over (mask_of cell (stage_of part)) (parts ++ part ∷ []) within
      (λ r e. omega (arith, count_push cell parts part r, bit_one (stage_of part) r e))
      (λ r e. omega (arith, count_push cell parts part r, bit_none (stage_of part) r e))

  -- the bits of a mask are those of resources
  pub mask_is_of : (s : Stage) → IsMaskOf held (mask_of cell s)
  mask_is_of s r e = omega (arith, are.complete, leads-resource cell fits r s (sym (mask_law cell fits s r) ∙ e))

  -- a bit that one stage alone has
  only_sum : (t s : Stage) (r : ℕ)
      → bit_at (bits_only_of (mask_of cell t) (mask_of cell s)) r + share cell r s ≡ max (share cell r t) (share cell r s)
  only_sum t s r =
      ap (λ b. bit_at (bits_only_of (mask_of cell t) (mask_of cell s)) r + b) (sym (bit_at-mask_of cell fits s r))
      ∙ bit_at-only (mask_of cell t) (mask_of cell s) r (mask_of-small cell fits t) (mask_of-small cell fits s)
      ∙ ap₂ max (bit_at-mask_of cell fits t r) (bit_at-mask_of cell fits s r)

  pub only_one : (t s : Stage) (r : ℕ) → has_bit (bits_only_of (mask_of cell t) (mask_of cell s)) r ≡ true
      → (share cell r t ≡ 1) × (share cell r s ≡ 0)
  only_one t s r e =
      let one = bit_at-of_set (bits_only_of (mask_of cell t) (mask_of cell s)) r e in
      let sum = only_sum t s r in
      (omega (arith, one, sum, share-le cell r t, share-le cell r s), omega (arith, one, sum, share-le cell r t, share-le cell r s))

  only_none : (t s : Stage) (r : ℕ) → has_bit (bits_only_of (mask_of cell t) (mask_of cell s)) r ≡ false → share cell r t ≤ share cell r s
  only_none t s r e =
      let none : bit_at (bits_only_of (mask_of cell t) (mask_of cell s)) r ≡ 0 =
      bit_at-number (bits_only_of (mask_of cell t) (mask_of cell s)) r ∙ ap (λ b. cond {A = ℕ} b 1 0) e in
      omega (arith, none, only_sum t s r)

  pub only_is_of : (t s : Stage) → IsMaskOf held (bits_only_of (mask_of cell t) (mask_of cell s))
  only_is_of t s r e =
      mask_is_of t r (has_bit-of_one (mask_of cell t) r (bit_at-mask_of cell fits t r ∙ (only_one t s r e).0))

  module _ (part next : Part) (distinct : HaveDistinctJobs parts) (stands : Contains parts part) where
    -- the count after a move
    moved_count : (r : ℕ) → count cell (without parts part.job ++ next ∷ []) r + share cell r (stage_of part)
        ≡ count cell parts r + share cell r (stage_of next)
    moved_count r = omega (arith, count_push cell (without parts part.job) next r, count-without cell parts part r distinct stands)

    pub move_over : IsWithinCapacity cell parts
        → first_full held (bits_only_of (mask_of cell (stage_of next)) (mask_of cell (stage_of part)))
        ≡ first_over cell (without parts part.job ++ next ∷ [])
    move_over within =
        first_full_over (bits_only_of (mask_of cell (stage_of next)) (mask_of cell (stage_of part))) (without parts part.job ++ next ∷ [])
        within
        (λ r e. let one = only_one (stage_of next) (stage_of part) r e in omega (arith, moved_count r, one.0, one.1))
        (λ r e. omega (arith, moved_count r, only_none (stage_of next) (stage_of part) r e))

    -- the neighborhoods that hold a part
    pub counted_once : (r : ℕ) → share cell r (stage_of part) ≤ count cell parts r
    counted_once r = omega (arith, count-without cell parts part r distinct stands)

    pub mask_held : AreHeld held (mask_of cell (stage_of part))
    mask_held r e =
        omega (
          arith,
          are.each r (leads-resource cell fits r (stage_of part) (sym (mask_law cell fits (stage_of part) r) ∙ e)),
          counted_once r,
          bit_one (stage_of part) r e,
        )

    pub only_held : AreHeld held (bits_only_of (mask_of cell (stage_of part)) (mask_of cell (stage_of next)))
    only_held r e = mask_held r
        (has_bit-of_one (mask_of cell (stage_of part)) r
        (bit_at-mask_of cell fits (stage_of part) r ∙ (only_one (stage_of part) (stage_of next) r e).0))
