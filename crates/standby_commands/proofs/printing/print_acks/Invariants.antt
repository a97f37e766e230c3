-- The lines of the answers so far are printed.
use Rattle.std.proofs.Common.{map, take}
use Rattle.printer.specs.Printing.{Prints}
use Rattle.standby_commands.specs.Lines.{ack_line}
use Rattle.standby_commands.proofs.printing.print_acks.Given as goal

abbrev pub invariant-loop-ack : goal.invariant-loop-ack
invariant-loop-ack g l = Prints g.K.Sink l.initial.out l.out (map ack_line (take l.ack-index l.acks))
