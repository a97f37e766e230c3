-- The lines of those of the parts so far that stand there are printed.
use Rattle.std.proofs.Common.{map, take}
use Rattle.printer.specs.Printing.{Prints}
use Rattle.look_commands.specs.Parts.{part_line, parts_on}
use Rattle.look_commands.proofs.locating.print_parts_on.Given as goal

abbrev pub invariant-loop-part : goal.invariant-loop-part
invariant-loop-part g l =
    Prints g.K.Sink l.initial.out l.out (map (part_line l.cell) (parts_on l.cell (take l.part-index l.parts) l.r.0))
