-- The mask at the number of the stage.
use Rattle.std.proofs.Common.{List, ℕ, length, get_or, ap, ◌∙◌, sym, subst, arith}
use Rattle.cell_base.specs.Stages.{IsStage, stage_of}
use Rattle.cell_base.specs.Neighborhoods.{mask_of, masks_of}
use Rattle.policy_laws.proofs.Masks.{stage_has_mask, mask_at_stage}
use Rattle.banker_check.proofs.stage_masks.StageMasks.mask.Goals as goal

pub mask-requires : goal.mask-requires
mask-requires c =
    let cell = c.self.inside.stages in
    let s = stage_of c.args.part in
    omega (
      arith,
      c.number-stage.ensures,
      ap length c.self.invariant.0,
      stage_has_mask cell s (subst (λ cell. IsStage cell s) (sym c.self.view_is) c.requires),
    )

pub returns : goal.returns
returns c =
    let cell = c.self.inside.stages in
    let s = stage_of c.args.part in
    c.mask.ensures.mask
    ∙ ap (λ (masks : List ℕ). get_or masks c.number-stage.result.0 0) c.self.invariant.0
    ∙ ap (λ n. get_or (masks_of cell) n 0) c.number-stage.ensures
    ∙ mask_at_stage cell s (subst (λ cell. IsStage cell s) (sym c.self.view_is) c.requires)
    ∙ ap (λ cell. mask_of cell s) c.self.view_is
