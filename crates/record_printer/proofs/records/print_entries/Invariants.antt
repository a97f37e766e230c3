-- The lines of the entries so far are printed.
use Rattle.std.proofs.Common.{map, take}
use Rattle.printer.specs.Printing.{Prints}
use Rattle.record_printer.specs.Blocks.{entry_line}
use Rattle.record_printer.proofs.records.print_entries.Given as goal

abbrev pub invariant-loop-entry : goal.invariant-loop-entry
invariant-loop-entry g l = Prints g.K.Sink l.initial.out l.out (map (entry_line l.cell) (take l.entry-index l.entries))
