-- The head, and then the grants.
use Rattle.printer.proofs.Sequences.{prints_as, prints_more}
use Rattle.look_commands.proofs.Right.{entry_lines}
use Rattle.look_commands.proofs.listing.print_history.Goals as goal

pub returns : goal.returns
returns g c =
    prints_as (entry_lines c.args.cell.now c.args.grants.now c.head_line.result c.head_line.ensures)
    (prints_more c.line.ensures c.print_grants.ensures)
