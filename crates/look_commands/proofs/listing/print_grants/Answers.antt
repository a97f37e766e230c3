-- The line of one more grant is printed.
use Rattle.printer.proofs.Sequences.{prints_item}
use Rattle.look_commands.specs.Grants.{grant_line}
use Rattle.look_commands.proofs.listing.print_grants.Goals as goal

pub loop-grant-preserved : goal.loop-grant-preserved
loop-grant-preserved g c =
    prints_item (grant_line c.args.cell.now) c.args.grants.now c.loop-grant.grant-index _ c.write_grant.ensures c.loop-grant-test.true
    c.loop-grant.invariant c.line.ensures
