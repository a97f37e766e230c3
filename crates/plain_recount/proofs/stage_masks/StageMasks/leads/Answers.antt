-- The mask of a stage has the bits of the resources to which it leads.
use Rattle.std.proofs.Common.{ap, arith, ◌∙◌}
use Rattle.cell_base.specs.Masks.{has_bit}
use Rattle.cell_base.specs.Stages.{stage_of}
use Rattle.policy_laws.proofs.Masks.{mask_law}
use Rattle.plain_recount.proofs.stage_masks.StageMasks.leads.Goals as goal

pub has_bit-requires : goal.has_bit-requires
has_bit-requires c = omega (arith, c.mask.ensures.fits.resource_count.1, c.requires.resource)

pub returns : goal.returns
returns c =
    c.has_bit.ensures
    ∙ ap (λ mask. has_bit mask c.args.r.0) c.mask.ensures.mask
    ∙ mask_law c.args.self.now c.mask.ensures.fits (stage_of c.args.part) c.args.r.0
