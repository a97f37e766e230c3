-- The history, and then what is left.
use Rattle.std.proofs.Common.{◌∙◌, List, ap}
use Rattle.cell_base.specs.declared.cells.Cell.{Cell}
use Rattle.cell_base.specs.declared.shifts.Grant.{Grant}
use Rattle.record_printer.specs.Blocks.{history_lines, planned_block}
use Rattle.printer.proofs.Sequences.{prints_as, prints_more}
use Rattle.look_commands.specs.Grants.{history_of}
use Rattle.look_commands.proofs.listing.print_found.Goals as goal

pub returns : goal.returns
unfolding planned_block
returns g c =
    prints_more
    (prints_as
    (ap (λ (cell : Cell). history_lines cell 0 0 (history_of c.as_slice.result.now)) c.cell.ensures.cell
    ∙ ap (λ (grants : List Grant). history_lines c.args.found.core.cell 0 0 (history_of grants)) c.as_slice.ensures)
    c.print_history.ensures)
    c.print_left.ensures
