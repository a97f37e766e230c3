-- The lines of the requests so far are printed.
use Rattle.std.proofs.Common.{map, take}
use Rattle.record_text.specs.StartFiles.{place_line}
use Rattle.printer.specs.Printing.{Prints}
use Rattle.carry_commands.proofs.carry.print_places.Given as goal

abbrev pub invariant-loop-request : goal.invariant-loop-request
invariant-loop-request g l = Prints g.K.Sink l.initial.out l.out (map (place_line l.cell) (take l.request-index l.requests))
