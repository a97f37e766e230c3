-- One line more, or none is left.
use Rattle.refusal_reason.specs.Shown.{show_lines}
use Rattle.cell_commands.proofs.Showing.{showing_begins, showing_ends, showing_goes_on}
use Rattle.cell_commands.proofs.show.print_shown.Goals as goal

pub loop-later-preserved : goal.loop-later-preserved
loop-later-preserved g c =
    showing_goes_on c.loop-later.rest.now c.loop-later.invariant c.cut_line.result.0.now c.in-Some.later.now
    (rw c.in-Some.is at c.cut_line.ensures.pieces) c.piece.ensures

pub returns : goal.returns
returns g c =
    showing_ends c.loop-later.rest.now c.loop-later.invariant c.cut_line.result.0.now (rw c.in_default.is at c.cut_line.ensures.pieces)
