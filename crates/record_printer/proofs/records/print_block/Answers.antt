-- The history, and then what is left.
use Rattle.std.proofs.Common.{ap}
use Rattle.cell_base.specs.declared.cells.Cell.{Cell}
use Rattle.record_printer.specs.Blocks.{history_lines, planned_block}
use Rattle.printer.proofs.Sequences.{prints_as, prints_more}
use Rattle.record_printer.proofs.records.print_block.Goals as goal

pub returns : goal.returns
unfolding planned_block
returns g c =
    prints_more
    (prints_as (ap (λ (cell : Cell). history_lines cell c.args.shift c.args.grants c.args.entries.now) c.cell.ensures.cell)
    c.print_history.ensures)
    c.print_left.ensures
