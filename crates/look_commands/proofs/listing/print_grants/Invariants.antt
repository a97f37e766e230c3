-- The lines of the grants so far are printed.
use Rattle.std.proofs.Common.{map, take}
use Rattle.printer.specs.Printing.{Prints}
use Rattle.look_commands.specs.Grants.{grant_line}
use Rattle.look_commands.proofs.listing.print_grants.Given as goal

abbrev pub invariant-loop-grant : goal.invariant-loop-grant
invariant-loop-grant g l = Prints g.K.Sink l.initial.out l.out (map (grant_line l.cell) (take l.grant-index l.grants))
