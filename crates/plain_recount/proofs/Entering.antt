-- The neighborhoods that a part enters, as the bits that the mask of its stage has and that of the present part's hasn't.
use Rattle.std.proofs.Common.{◌≡◌, ℕ, ◌<◌, true, not, ◌&&◌, length, Option, Some, None, ap₂, ◌∙◌, arith}
use Rattle.std.proofs.lemmas.Bool.{and_parts}
use Rattle.cell_base.specs.declared.cells.Cell.{Cell}
use Rattle.cell_base.specs.declared.requests.Part.{Part}
use Rattle.cell_base.specs.Stages.{stage_of}
use Rattle.cell_base.specs.Masks.{has_bit, bits_only_of}
use Rattle.cell_base.specs.Neighborhoods.{mask_of}
use Rattle.cell_base.specs.Fits.{CellFits}
use Rattle.cell_base.proofs.Bits.{has_bit-zero}
use Rattle.policy_laws.proofs.Leading.{leads-resource}
use Rattle.policy_laws.proofs.Masks.{mask_law, mask_of-small}
use Rattle.plain_recount.specs.Entering.{enters}
use Rattle.plain_recount.proofs.Bits.{has_bit-only}

module _ (cell : Cell) (fits : CellFits cell) (part : Part) (r : ℕ) where
  -- in the place of no part, and in that of one
  pub enters-new : has_bit (bits_only_of (mask_of cell (stage_of part)) 0) r ≡ enters cell None part r
  enters-new =
      has_bit-only (mask_of cell (stage_of part)) 0 r (mask_of-small cell fits (stage_of part)) (omega arith)
      ∙ ap₂ (λ a b. a && not b) (mask_law cell fits (stage_of part) r) (has_bit-zero r)

  pub enters-instead : (present : Part)
      → has_bit (bits_only_of (mask_of cell (stage_of part)) (mask_of cell (stage_of present))) r ≡ enters cell (Some present) part r
  enters-instead present =
      has_bit-only (mask_of cell (stage_of part)) (mask_of cell (stage_of present)) r
      (mask_of-small cell fits (stage_of part)) (mask_of-small cell fits (stage_of present))
      ∙ ap₂ (λ a b. a && not b) (mask_law cell fits (stage_of part) r) (mask_law cell fits (stage_of present) r)

  -- it enters those of resources of the cell alone
  pub enters-within : (present : Option Part) → enters cell present part r ≡ true → r < length cell.resources
  enters-within present e = leads-resource cell fits r (stage_of part) (and_parts _ _ e).0
