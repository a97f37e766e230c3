-- The table is read at the type and the place.
use Rattle.std.proofs.Common.{ap, ◌∙◌, ℕ}
use Rattle.cell_base.specs.Stages.{stage, stage_of}
use Rattle.cell_base.specs.Neighborhoods.{mask_of}
use Rattle.plain_recount.specs.Leading.{leading_row, leading_table}
use Rattle.lists.proofs.Growing.{length-made, made_at}
use Rattle.policy_laws.proofs.Stages.{kind_within}
use Rattle.plain_recount.proofs.stage_masks.StageMasks.mask.Goals as goal

pub get-requires : goal.get-requires
get-requires c =
    let made = c.self.invariant.1 ∙ ap leading_table c.self.view_is in
    rw (length-made (leading_row c.args.self.now) _ _ made) (kind_within c.args.self.now (stage_of c.args.part) c.requires)

pub get-requires-2 : goal.get-requires-2
get-requires-2 c =
    let made = c.self.invariant.1 ∙ ap leading_table c.self.view_is in
    let row =
    made_at (leading_row c.args.self.now) _ c.args.part.kind.0 _ _ made
    (kind_within c.args.self.now (stage_of c.args.part) c.requires) c.get.ensures in
    rw (length-made (λ (place : ℕ). mask_of c.args.self.now (stage c.args.part.kind.0 place)) _ _ row) c.requires

pub returns-clause-mask : goal.returns-clause-mask
returns-clause-mask c =
    let made = c.self.invariant.1 ∙ ap leading_table c.self.view_is in
    let row =
    made_at (leading_row c.args.self.now) _ c.args.part.kind.0 _ _ made
    (kind_within c.args.self.now (stage_of c.args.part) c.requires) c.get.ensures in
    made_at (λ (place : ℕ). mask_of c.args.self.now (stage c.args.part.kind.0 place)) _ c.args.part.place _ _ row
    c.requires c.get-2.ensures
