-- A stage leads on by its next places, of which the row knows.
use Rattle.std.proofs.Common.{arith}
use Rattle.std.proofs.lemmas.Bool.Decides.{nat_tests}
use Rattle.plain_recount.proofs.Places.{leads-by_row}
use Rattle.plain_recount.proofs.sweep.leads_at.Goals as goal

pub returns-then-order_of : goal.returns-then-order_of
returns-then-order_of c =
    let next = c.next_places.ensures in
    let by_row =
    leads-by_row c.args.cell.now c.requires.fits c.args.r.0 c.args.kind.0 c.args.place c.args.row.now c.next_places.result.now
    c.requires.stage next.stages next.fit.later c.requires.row in
    grind (arith, nat_tests, by_row)
