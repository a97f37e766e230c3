-- The numbers that run along with the parts, after each change.
use Rattle.std.proofs.Common.{◌≡◌, ℕ, ◌+◌, ◌*◌, ◌<◌, ◌≤◌, Bool, true, false, cond, List, [], ◌∷◌}
use Rattle.std.proofs.Common.{◌++◌, length, All, Contains, find, get_or, Some, ap, sym, ◌∙◌, arith}
use Rattle.std.specs.Int.{bit_at}
use Rattle.std.proofs.lemmas.List.Elements.{All-weaker}
use Rattle.std.proofs.lemmas.List.Sums.{sum_by_push, sum_by-le}
use Rattle.cell_base.specs.declared.limits.TheConstants.{MAX_UNITS}
use Rattle.cell_base.specs.declared.cells.Cell.{Cell}
use Rattle.cell_base.specs.declared.requests.Part.{Part}
use Rattle.cell_base.specs.Stages.{IsStage, stage_of}
use Rattle.cell_base.specs.Neighborhoods.{mask_of, count}
use Rattle.cell_base.specs.Policy.{HaveDistinctJobs}
use Rattle.cell_base.specs.Outcomes.{without, finish_first}
use Rattle.cell_base.specs.Plans.{work_of, work}
use Rattle.cell_base.specs.Fits.{CellFits}
use Rattle.policy_laws.proofs.Masks.{bit_at-mask_of}
use Rattle.policy_laws.proofs.Parts.{sum_by-without, sum_by-finish_first}
use Rattle.policy_laws.proofs.States.{count_push, count-without, count-finish_first}
use Rattle.policy_laws.proofs.Work.{work_of-finished}
use Rattle.policy_laws.proofs.Walks.{work_from-few}
use Rattle.neighborhood_counts.specs.Counts.{Counted}
use Rattle.admission_core.specs.CoreState.{AreCounts}

module _ (cell : Cell) (fits : CellFits cell) (parts : List Part) where
  -- counts
  module _ (held next : Counted) (are : AreCounts cell parts held) (long : length next.counts ≡ length held.counts)
      (units : next.capacities ≡ held.capacities) where
    counts_with : (others : List Part) → ((r : ℕ) → r < length cell.resources → get_or next.counts r 0 ≡ count cell others r)
        → AreCounts cell others next
    counts_with others each = record {
      complete = long ∙ are.complete;
      each = each;
      capacities = λ r h. ap (λ (xs : List ℕ). get_or xs r 0) units ∙ are.capacities r h;
    }

    pub counts_entered : (part : Part) (mask : ℕ) → mask ≡ mask_of cell (stage_of part)
        → ((r : ℕ) → get_or next.counts r 0 ≡ get_or held.counts r 0 + bit_at mask r) → AreCounts cell (parts ++ part ∷ []) next
    counts_entered part mask is more = counts_with (parts ++ part ∷ []) (λ r h.
        omega (
          arith,
          more r,
          are.each r h,
          ap (λ m. bit_at m r) is,
          bit_at-mask_of cell fits (stage_of part) r,
          count_push cell parts part r,
        ))

    module _ (part : Part) (distinct : HaveDistinctJobs parts) (stands : Contains parts part) where
      pub counts_left : (mask : ℕ) → mask ≡ mask_of cell (stage_of part)
          → ((r : ℕ) → get_or next.counts r 0 + bit_at mask r ≡ get_or held.counts r 0) → AreCounts cell (without parts part.job) next
      counts_left mask is less = counts_with (without parts part.job) (λ r h.
          omega (
            arith,
            less r,
            are.each r h,
            ap (λ m. bit_at m r) is,
            bit_at-mask_of cell fits (stage_of part) r,
            count-without cell parts part r distinct stands,
          ))

      pub counts_moved : (new : Part) (from to : ℕ) → from ≡ mask_of cell (stage_of part) → to ≡ mask_of cell (stage_of new)
          → ((r : ℕ) → get_or next.counts r 0 + bit_at from r ≡ get_or held.counts r 0 + bit_at to r)
          → AreCounts cell (without parts part.job ++ new ∷ []) next
      counts_moved new from to is goes shifted = counts_with (without parts part.job ++ new ∷ []) (λ r h.
          omega (
            arith,
            shifted r,
            are.each r h,
            ap (λ m. bit_at m r) is,
            ap (λ m. bit_at m r) goes,
            bit_at-mask_of cell fits (stage_of part) r,
            bit_at-mask_of cell fits (stage_of new) r,
            count-without cell parts part r distinct stands,
            count_push cell (without parts part.job) new r,
          ))

  pub counts_finished : (held : Counted) (test : Part → Bool) → AreCounts cell parts held → AreCounts cell (finish_first test parts) held
  counts_finished held test are = record {
    complete = are.complete;
    each = λ r h. are.each r h ∙ sym (count-finish_first cell test parts r);
    capacities = are.capacities;
  }

  -- work
  pub work_entered : (part : Part) → work cell (parts ++ part ∷ []) ≡ work cell parts + work_of cell part
  work_entered part = sum_by_push (work_of cell) parts part

  pub work_without : (part : Part) → HaveDistinctJobs parts → Contains parts part
      → work cell (without parts part.job) + work_of cell part ≡ work cell parts
  work_without part distinct stands = sum_by-without (work_of cell) parts part distinct stands

  pub work_finished : (test : Part → Bool) (part : Part) → find test parts ≡ Some part → part.done ≡ false
      → work cell (finish_first test parts) + 1 ≡ work cell parts
  work_finished test part e waiting =
      omega (arith, sum_by-finish_first (work_of cell) test parts part e, work_of-finished cell part waiting)

  -- all work together fits many times
  pub work_of-le : (part : Part) → IsStage cell (stage_of part) → work_of cell part ≤ 129
  work_of-le part standing = omega (arith, work_from-few cell fits (stage_of part) standing, at part.done)
    where
      at : (b : Bool) → cond {A = ℕ} b 0 1 ≤ 1
      at true = omega arith
      at false = omega arith

  pub work-le : All (λ part. IsStage cell (stage_of part)) parts → length parts ≤ MAX_UNITS → work cell parts ≤ MAX_UNITS * 129
  work-le standing few =
      omega (
        arith,
        sum_by-le (work_of cell) 129 parts
            (All-weaker (λ part. IsStage cell (stage_of part)) (λ part. work_of cell part ≤ 129) work_of-le parts standing),
      )
