-- The lines of the resources so far are printed.
use Rattle.std.specs.List.{flat_map, range_with_len}
use Rattle.printer.specs.Printing.{Prints}
use Rattle.look_commands.specs.Parts.{resource_lines}
use Rattle.look_commands.proofs.locating.print_parts.Given as goal

abbrev pub invariant-loop-r : goal.invariant-loop-r
invariant-loop-r g l = Prints g.K.Sink l.initial.out l.out (flat_map (resource_lines l.core.cell l.core.parts) (range_with_len 0 l.r))
