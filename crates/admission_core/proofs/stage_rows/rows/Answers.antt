-- One row more.
use Rattle.std.proofs.Common.{◌+◌, length, ap, subst, sym, ◌∙◌}
use Rattle.std.proofs.lemmas.List.{length_push}
use Rattle.cell_base.specs.Numbers.{stage_numbered}
use Rattle.admission_core.specs.Rows.{IsRowOf}
use Rattle.admission_core.proofs.Rowing.{rows_pushed}
use Rattle.admission_core.proofs.stage_rows.rows.Goals as goal

pub loop-stage-preserved : goal.loop-stage-preserved
loop-stage-preserved c =
    let rows = c.loop-stage.rows.items in
    let cell = c.args.stages.now in
    let last : IsRowOf c.args.stages.now (stage_numbered c.args.stages.now (length c.loop-stage.rows.items)) c.row_of.result =
    subst (λ n. IsRowOf c.args.stages.now (stage_numbered c.args.stages.now n) c.row_of.result) (sym c.loop-stage.invariant.long)
    c.row_of.ensures in
    record {
      long = ap length c.in_ok-push.ensures.items ∙ length_push rows c.row_of.result ∙ ap (λ n. n + 1) c.loop-stage.invariant.long;
      each = rw c.in_ok-push.ensures.items (rows_pushed cell rows c.row_of.result c.loop-stage.invariant.each last);
    }
