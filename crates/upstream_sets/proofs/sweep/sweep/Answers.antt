-- The masks that are known from the first stage on are all.
use Rattle.std.proofs.Common.{arith}
use Rattle.upstream_sets.proofs.Stages.{masks_whole}
use Rattle.upstream_sets.proofs.sweep.sweep.Goals as goal

pub returns-clause-masks : goal.returns-clause-masks
returns-clause-masks c =
    masks_whole c.args.table.now c.loop-stage.masks.items c.loop-stage.invariant.0
    (λ n from within. c.loop-stage.invariant.1 n (omega arith) within)
