-- A stage more is in the lists.
use Rattle.std.proofs.Common.{◌∙◌}
use Rattle.upstream_sets.proofs.Adding.{bits_more}
use Rattle.upstream_sets.proofs.neighborhoods.neighborhoods.Goals as goal

pub loop-stage-preserved : goal.loop-stage-preserved
loop-stage-preserved c =
    let put = c.in_ok-add_stage.ensures in
    record {
      complete = put.complete ∙ c.loop-stage.invariant.complete;
      each = λ r within. bits_more c.loop-stage.stage c.args.masks.now r _ _ (c.loop-stage.invariant.each r within) (put.each r);
    }
