-- The first place of a route is a stage.
use Rattle.std.proofs.Common.{sym, subst}
use Rattle.cell_base.specs.declared.requests.Part.{Part}
use Rattle.cell_base.specs.Stages.{IsStage, stage_of}
use Rattle.cell_base.specs.Fits.{CellFits}
use Rattle.policy_laws.proofs.Stages.{first_stage}
use Rattle.plain_recount.proofs.stage_masks.StageMasks.entry.Goals as goal

pub arrival-requires : goal.arrival-requires
arrival-requires c =
    rw c.self.view_is
    (first_stage c.args.self.now (subst CellFits c.self.view_is c.self.invariant.0) c.args.kind.0 c.requires)

pub returns-clause-stage : goal.returns-clause-stage
returns-clause-stage c =
    subst (λ (part : Part). IsStage c.args.self.now (stage_of part)) (sym c.arrival.ensures)
    (first_stage c.args.self.now (subst CellFits c.self.view_is c.self.invariant.0) c.args.kind.0 c.requires)
