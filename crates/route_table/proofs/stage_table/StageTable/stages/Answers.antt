-- There are few stages.
use Rattle.std.proofs.Common.{length, ap, arith}
use Rattle.std.specs.Arc.{arc_value}
use Rattle.std.proofs.lemmas.List.{length-map}
use Rattle.cell_base.specs.Stages.{stages}
use Rattle.route_table.specs.Entries.{stage_entry}
use Rattle.cell_base.proofs.StageCounts.{few_stages}
use Rattle.route_table.proofs.stage_table.StageTable.stages.Goals as goal

pub overflow_cast-result : goal.overflow_cast-result
overflow_cast-result c =
    let cell = arc_value c.self.inside.cell in
    omega (
      arith,
      c.len.ensures,
      ap length c.self.invariant.rows,
      length-map (stages cell) (stage_entry cell),
      few_stages cell c.self.invariant.fits,
    )
