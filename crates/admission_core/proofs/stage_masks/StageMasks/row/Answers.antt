-- The row at the number of the stage.
use Rattle.std.proofs.Common.{arith, subst, sym}
use Rattle.cell_base.specs.declared.cells.Cell.{Cell}
use Rattle.cell_base.specs.Stages.{IsStage, stage}
use Rattle.admission_core.specs.Rows.{IsRowOf}
use Rattle.admission_core.proofs.Rowing.{row_within, row_at}
use Rattle.admission_core.proofs.stage_masks.StageMasks.row.Goals as goal

pub index-requires : goal.index-requires
index-requires c =
    let s = stage c.args.kind.0 c.args.place in
    omega (
      arith,
      c.self.inside.rows.ok.0,
      row_within c.self.inside.stages c.self.inside.rows.items c.self.invariant.1 s
          (subst (λ (cell : Cell). IsStage cell (stage c.args.kind.0 c.args.place)) (sym c.self.view_is) c.requires)
          c.number-stage.result.0 c.number-stage.ensures,
    )

pub returns : goal.returns
returns c =
    let s = stage c.args.kind.0 c.args.place in
    subst (λ (cell : Cell). IsRowOf cell (stage c.args.kind.0 c.args.place) c.index.result.now) c.self.view_is
    (row_at c.self.inside.stages c.self.inside.rows.items c.self.invariant.1 s
    (subst (λ (cell : Cell). IsStage cell (stage c.args.kind.0 c.args.place)) (sym c.self.view_is) c.requires)
    c.number-stage.result.0 c.index.result.now c.number-stage.ensures c.index.ensures)
