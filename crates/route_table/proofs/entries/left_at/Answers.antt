-- The steps at a stage are those at the stage after it by branch 0, and its arrival and work there.
use Rattle.std.proofs.Common.{sym, arith}
use Rattle.cell_base.specs.Stages.{stage}
use Rattle.cell_base.proofs.Walks.{work_from-next, work_from-last, work_from-few, work_at-le}
use Rattle.route_table.proofs.entries.left_at.Goals as goal

pub overflow_add-result : goal.overflow_add-result
overflow_add-result c =
    let cell = c.args.cell.now in
    let next = stage c.args.kind.0 c.in-Some.next in
    omega (
      arith,
      c.requires.row c.in-Some.next (omega (arith, c.in-Some.ensures.later)) c.in-Some.ensures.within,
      work_from-few cell c.requires.fits next c.in-Some.ensures.within,
      c.arrival_steps.ensures,
      work_at-le cell next,
    )

pub returns-in-None : goal.returns-in-None
returns-in-None c =
    sym (work_from-last c.args.cell.now c.requires.fits (stage c.args.kind.0 c.args.place) c.requires.stage (sym c.in-None.ensures.stage))

pub returns-in-Some : goal.returns-in-Some
returns-in-Some c =
    let cell = c.args.cell.now in
    omega (
      arith,
      c.requires.row c.in-Some.next (omega (arith, c.in-Some.ensures.later)) c.in-Some.ensures.within,
      c.arrival_steps.ensures,
      work_from-next cell c.requires.fits (stage c.args.kind.0 c.args.place) (stage c.args.kind.0 c.in-Some.next) c.requires.stage
          (sym c.in-Some.ensures.stage),
    )
