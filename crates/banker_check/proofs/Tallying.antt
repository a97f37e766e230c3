-- The counts of the neighborhoods after each change.
use Rattle.std.proofs.Common.{◌≡◌, ℕ, ◌+◌, ◌≤◌, true, false, not, Option, Some, None, List, [], ◌∷◌, ◌++◌, length, get_or, replicate}
use Rattle.std.proofs.Common.{zero, suc, refl, ap, arith}
use Rattle.std.specs.Int.{bit_at}
use Rattle.std.specs.Option.{option_map_or}
use Rattle.std.proofs.lemmas.Bool.{not_from_false, false_from_ne_true, both_ways}
use Rattle.std.proofs.lemmas.List.Elements.{All-weaker}
use Rattle.std.proofs.lemmas.Nat.Bits.{bit_at-zero}
use Rattle.cell_base.specs.declared.limits.TheConstants.{MAX_UNITS}
use Rattle.cell_base.specs.declared.cells.Cell.{Cell}
use Rattle.cell_base.specs.declared.requests.JobId.{JobId}
use Rattle.cell_base.specs.declared.requests.Part.{Part}
use Rattle.cell_base.specs.Stages.{stage_of}
use Rattle.cell_base.specs.Neighborhoods.{mask_of, count, leads}
use Rattle.cell_base.specs.Policy.{HaveDistinctJobs, is_of_job, is_loaded}
use Rattle.cell_base.specs.Outcomes.{part_of, without}
use Rattle.cell_base.specs.Fits.{CellFits}
use Rattle.policy_laws.proofs.Masks.{bit_at-mask_of}
use Rattle.policy_laws.proofs.Parts.{part_of-found}
use Rattle.policy_laws.proofs.States.{count_push, count-without}
use Rattle.policy_laws.proofs.Lists.{filter_all, find_none, All-find_none, All-from_Contains, list_any-Contains}
use Rattle.banker_check.specs.Tallies.{AreCountsOfParts, mask_of_job}
use Rattle.banker_check.proofs.Within.{length-filter_most}

pub counts-none : (cell : Cell) → AreCountsOfParts cell [] (replicate 64 0)
counts-none cell r = zeros 64 r
  where
    zeros : (n r : ℕ) → ◌≡◌ {A = ℕ} (get_or (replicate n 0) r 0) 0
    zeros zero r = refl
    zeros (suc n) zero = refl
    zeros (suc n) (suc r) = zeros n r

-- a job that is not there has no neighborhoods
pub mask_of_job-absent : (cell : Cell) (parts : List Part) (job : JobId) → is_loaded parts job ≡ false → mask_of_job cell parts job ≡ 0
mask_of_job-absent cell parts job e =
    ap (λ o. option_map_or (λ part. mask_of cell (stage_of part)) o 0)
    (find_none (is_of_job job) parts (All-from_Contains (λ part. is_of_job job part ≡ false) parts
    (λ part c. false_from_ne_true _ (λ f. both_ways _ e (list_any-Contains (is_of_job job) parts part c f)))))

module _ (cell : Cell) (fits : CellFits cell) (parts : List Part) (distinct : HaveDistinctJobs parts) where
  -- the count without the part of a job
  pub count-gone : (job : JobId) (r : ℕ) → count cell (without parts job) r + bit_at (mask_of_job cell parts job) r ≡ count cell parts r
  count-gone job r = at (part_of parts job) refl
    where
      at : (o : Option Part) → part_of parts job ≡ o
          → count cell (without parts job) r + bit_at (option_map_or (λ part. mask_of cell (stage_of part)) o 0) r ≡ count cell parts r
      at None e =
          omega (
            arith,
            bit_at-zero r,
            ap (λ ps. count cell ps r) (filter_all (λ other. not (is_of_job job other)) parts
                (All-weaker (λ other. is_of_job job other ≡ false) (λ other. not (is_of_job job other) ≡ true)
                (λ other f. not_from_false _ f) parts
                (All-find_none (is_of_job job) parts e))),
          )
      at (Some part) e =
          let found = part_of-found parts job part e in
          omega (
            arith,
            bit_at-mask_of cell fits (stage_of part) r,
            count-without cell parts part r distinct found.0,
            ap (λ job. count cell (without parts job) r) found.1,
          )

  -- the count where a part comes in the place of its job's present one
  pub count-next : (part : Part) (r : ℕ)
      → count cell (without parts part.job ++ part ∷ []) r + bit_at (mask_of_job cell parts part.job) r
      ≡ count cell parts r + bit_at (mask_of cell (stage_of part)) r
  count-next part r =
      omega (arith, count_push cell (without parts part.job) part r, bit_at-mask_of cell fits (stage_of part) r, count-gone part.job r)

  module _ (counts : List ℕ) (are : AreCountsOfParts cell parts counts) where
    -- what the running counts allow to take away, and how large they are
    pub counts-held : (job : JobId) (r : ℕ) → bit_at (mask_of_job cell parts job) r ≤ get_or counts r 0
    counts-held job r = omega (arith, count-gone job r, are r)

    pub counts-few : length parts ≤ MAX_UNITS → (r : ℕ) → get_or counts r 0 ≤ MAX_UNITS
    counts-few few r = omega (arith, few, are r, length-filter_most (λ part. leads cell (stage_of part) r) parts)
