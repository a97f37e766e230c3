-- A part of the state stands at a stage.
use Rattle.std.proofs.Common.{sym, ◌∙◌}
use Rattle.cell_base.specs.Stages.{IsStage, stage_of}
use Rattle.cell_base.specs.Policy.{is_of_job}
use Rattle.policy_laws.proofs.Lists.{All-found}
use Rattle.banker_check.proofs.changes.mask_of_job.Goals as goal

pub mask-requires : goal.mask-requires
mask-requires c =
    All-found (λ part. IsStage c.args.table.now (stage_of part)) (is_of_job c.args.job) c.args.tally.now.parts.items
    c.in-Some.part c.requires.state.standing (sym c.part_of.ensures ∙ c.in-Some.is)
