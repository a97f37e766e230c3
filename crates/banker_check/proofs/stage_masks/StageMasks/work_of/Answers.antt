-- The steps at the number of the stage.
use Rattle.std.proofs.Common.{ap, ◌∙◌, sym, subst}
use Rattle.cell_base.specs.Stages.{IsStage, stage_of}
use Rattle.cell_base.specs.Numbers.{IsNumber, stage_numbered}
use Rattle.cell_base.specs.Plans.{work_from, work_of}
use Rattle.policy_laws.proofs.Numbering.{numbering_law}
use Rattle.banker_check.proofs.stage_masks.StageMasks.work_of.Goals as goal

pub remaining-requires : goal.remaining-requires
remaining-requires c =
    let cell = c.self.inside.stages in
    let s = stage_of c.args.part in
    subst (IsNumber cell) (sym c.number-stage.ensures)
    ((numbering_law cell).numbers s (subst (λ cell. IsStage cell s) (sym c.self.view_is) c.requires))

pub returns-clause-value : goal.returns-clause-value
returns-clause-value c =
    let cell = c.self.inside.stages in
    let s = stage_of c.args.part in
    c.from.ensures
    ∙ c.remaining.ensures
    ∙ ap (λ n. work_from cell (stage_numbered cell n) c.args.part.done) c.number-stage.ensures
    ∙ ap (λ s. work_from cell s c.args.part.done) ((numbering_law cell).numbered s
    (subst (λ cell. IsStage cell s) (sym c.self.view_is) c.requires))
    ∙ ap (λ cell. work_of cell c.args.part) c.self.view_is
