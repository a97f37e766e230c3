-- The lines of the sessions that wait so far are printed.
use Rattle.std.proofs.Common.{map, take}
use Rattle.printer.specs.Printing.{Prints}
use Rattle.queue_command.specs.Lines.{still_line}
use Rattle.queue_command.proofs.printing.print_waiters.Given as goal

abbrev pub invariant-loop-waiter : goal.invariant-loop-waiter
invariant-loop-waiter g l = Prints g.K.Sink l.initial.out l.out (map (still_line l.cell) (take l.waiter-index l.waiters))
