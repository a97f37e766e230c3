-- The history, and then what is left.
use Rattle.std.proofs.Common.{ap, length}
use Rattle.cell_base.specs.declared.cells.Cell.{Cell}
use Rattle.banker_check.specs.HybridPlans.{plan_h_of}
use Rattle.printer.proofs.Sequences.{prints_as, prints_more}
use Rattle.hybrid_command.specs.Lines.{history_lines}
use Rattle.hybrid_command.proofs.Blocks.{block_is}
use Rattle.hybrid_command.proofs.printing.print_block.Goals as goal

pub returns : goal.returns
returns g c =
    let state = c.args.hybrid.now in
    prints_as (block_is state.cell c.args.shift c.args.entries.now (length state.parts) (plan_h_of state.cell state.parts))
    (prints_more
    (prints_as (ap (λ (cell : Cell). history_lines cell c.args.shift c.args.entries.now) c.cell.ensures.cell) c.print_history.ensures)
    c.print_left.ensures)
