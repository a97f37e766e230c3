-- The way of the successor is known, and its resource comes before it.
use Rattle.std.proofs.Common.{sym, arith}
use Rattle.cell_base.specs.Numbers.{stage_numbered}
use Rattle.policy_laws.proofs.Numbering.{numbering_law}
use Rattle.banker_check.proofs.WayMasks.{way_mask-next}
use Rattle.banker_check.proofs.ways.way_at.Goals as goal

pub returns-in-Some : goal.returns-in-Some
returns-in-Some c =
    let cell = c.args.table.now in
    let s = stage_numbered cell c.args.stage.0 in
    let t = stage_numbered cell c.in-Some.next.0 in
    way_mask-next cell c.requires.fits s t c.resource_of.result.0 _ ((numbering_law cell).stages c.args.stage.0 c.requires.stage)
    (sym c.in-Some.ensures.stage) c.resource_of.ensures.value
    (omega (arith, c.requires.fits.resource_count.1, c.resource_of.ensures.within))
    (c.requires.behind c.in-Some.next.0 (omega (arith, c.in-Some.ensures.later)) c.in-Some.ensures.within)
