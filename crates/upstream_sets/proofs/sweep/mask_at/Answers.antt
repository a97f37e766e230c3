-- The mask is as the sweep law says.
use Rattle.std.proofs.Common.{get_or, ap, subst, arith}
use Rattle.cell_base.specs.Stages.{order_of}
use Rattle.cell_base.specs.Numbers.{stage_numbered}
use Rattle.policy_laws.proofs.Numbering.{numbering_law}
use Rattle.upstream_sets.specs.Sweeps.{IsFloor}
use Rattle.upstream_sets.proofs.Floors.{swept}
use Rattle.upstream_sets.proofs.sweep.mask_at.Goals as goal

pub bounds-floors-on : goal.bounds-floors-on
bounds-floors-on c = omega (arith, c.requires.fits.resource_count.1, c.resource_of-on.ensures.within)

pub overflow_shl-result : goal.overflow_shl-result
overflow_shl-result c = omega (arith, c.requires.fits.resource_count.1, c.resource_of-on.ensures.within)

pub returns : goal.returns
returns c =
    let cell = c.args.table.now in
    let s = stage_numbered cell c.args.stage.0 in
    let on = c.resource_of-on.result.0 in
    let least = get_or c.args.floors.now on 0 in
    swept cell c.requires.fits s ((numbering_law cell).stages c.args.stage.0 c.requires.stage) c.joined.result least on
    c.resource_of-on.ensures.value (omega (arith, c.requires.fits.resource_count.1, c.resource_of-on.ensures.within)) c.joined.ensures
    (subst (λ order. IsFloor cell order least) (ap (order_of cell) c.resource_of-on.ensures.value)
    (c.requires.floors on c.resource_of-on.ensures.within))
