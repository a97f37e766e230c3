-- The weights, and then the orders.
use Rattle.std.proofs.Common.{ap}
use Rattle.order_commands.specs.Lines.{order_lines}
use Rattle.printer.proofs.Sequences.{prints_as, prints_first}
use Rattle.order_commands.proofs.orders.print_advice.Goals as goal

pub returns : goal.returns
returns g c =
    prints_first c.weight_line.ensures c.line.ensures
    (prints_as (ap (order_lines c.args.advised.now.cell) c.as_slice.ensures) c.print_orders.ensures)
