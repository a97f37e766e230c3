-- The lines so far are printed, and what is left is the text of the others.
use Rattle.std.proofs.Common.{length}
use Rattle.refusal_reason.specs.Shown.{show_lines}
use Rattle.cell_commands.proofs.Showing.{Showing}
use Rattle.cell_commands.proofs.show.print_shown.Given as goal

abbrev pub invariant-loop-later : goal.invariant-loop-later
invariant-loop-later g l = Showing g.K.Sink l.initial.out l.out (show_lines l.shown.core.cell) l.rest

abbrev pub decreases-loop-later : goal.decreases-loop-later
decreases-loop-later g l = length l.rest
