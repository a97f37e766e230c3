-- There are two steps at most for each place.
use Rattle.std.proofs.Common.{ap, arith}
use Rattle.route_table.specs.declared.entries.Entry.{Entry}
use Rattle.cell_base.specs.Numbers.{stage_numbered}
use Rattle.cell_base.proofs.Walks.{work_from-few}
use Rattle.route_table.proofs.stage_table.StageTable.remaining.Goals as goal

pub overflow_add-result : goal.overflow_add-result
overflow_add-result c =
    let cell = c.args.self.now in
    let entry = c.entry-left.ensures in
    omega (
      arith,
      ap (λ (entry : Entry). entry.left) entry.entry,
      work_from-few cell entry.fits (stage_numbered cell c.args.stage.0) entry.stage,
    )
