-- The row knows one place more.
use Rattle.std.proofs.Common.{◌-◌, arith, length-set, ◌∙◌}
use Rattle.policy_laws.proofs.Limits.{length-route_of}
use Rattle.plain_recount.proofs.Places.{KnowsAfter-set}
use Rattle.plain_recount.proofs.sweep.sweep.Goals as goal

pub loop-place-preserved : goal.loop-place-preserved
loop-place-preserved c =
    let short = length-route_of c.args.cell.now c.requires.fits c.args.kind.0 in (
      length-set _ _ _ ∙ c.loop-place.invariant.0,
      KnowsAfter-set c.args.cell.now c.args.kind.0 c.loop-place.place (c.loop-place.place - 1) c.loop-place.row
          c.mask_at.result (omega arith) (omega arith) c.mask_at.ensures c.loop-place.invariant.1,
    )
