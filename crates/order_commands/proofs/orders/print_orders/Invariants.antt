-- The lines of the resources so far are printed.
use Rattle.std.proofs.Common.{map}
use Rattle.std.specs.List.{range_with_len}
use Rattle.printer.specs.Printing.{Prints}
use Rattle.order_commands.specs.Lines.{order_line}
use Rattle.order_commands.proofs.orders.print_orders.Given as goal

abbrev pub invariant-loop-r : goal.invariant-loop-r
invariant-loop-r g l = Prints g.K.Sink l.initial.out l.out (map (order_line l.cell l.orders) (range_with_len 0 l.r))
