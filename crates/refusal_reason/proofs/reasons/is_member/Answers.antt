-- The bit of the mask at the number of the stage.
use Rattle.std.proofs.Common.{◌==◌, length, ap, ◌∙◌, arith}
use Rattle.std.proofs.lemmas.Nat.Bits.{shr_and_one}
use Rattle.policy_laws.proofs.Masks.{length-masks_of}
use Rattle.refusal_reason.proofs.reasons.is_member.Goals as goal

pub mask-requires : goal.mask-requires
mask-requires c = omega (arith, c.requires.stage, ap length c.requires.made, length-masks_of c.args.table.now)

pub overflow_shr-result : goal.overflow_shr-result
overflow_shr-result c = omega (arith, c.table_law.ensures.resource_count.1, c.requires.resource)

pub returns : goal.returns
returns c =
    ap (λ bit. bit == 1) (shr_and_one c.mask.result c.args.r.0)
    ∙ c.mask.ensures.leads c.args.table.now c.table_law.ensures c.requires.made c.args.r.0
