-- The stage of a number is a stage.
use Rattle.cell_base.proofs.Numbering.{stage_at}
use Rattle.route_table.proofs.stage_table.StageTable.entry.Goals as goal

pub returns-clause-stage : goal.returns-clause-stage
returns-clause-stage c = (stage_at c.args.self.now c.args.stage.0 c.requires).standing
