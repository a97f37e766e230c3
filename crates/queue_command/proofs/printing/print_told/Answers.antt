-- The entries, and then the sessions that wait.
use Rattle.std.proofs.Common.{◌∙◌, ap, map}
use Rattle.admission_core.specs.CoreState.{CoreState}
use Rattle.cell_base.specs.declared.cells.Cell.{Cell}
use Rattle.printer.proofs.Sequences.{prints_as, prints_more}
use Rattle.queue_command.specs.Lines.{entry_line, still_line}
use Rattle.queue_command.proofs.printing.print_told.Goals as goal

pub returns : goal.returns
returns g c =
    let board = c.args.board.now in
    let on_cell = c.cell-cell.ensures.cell ∙ ap (λ (core : CoreState). core.cell) c.core.ensures.core in
    prints_more
    (prints_as
    (ap (λ (cell : Cell). map (entry_line cell) c.history.result.now) on_cell ∙ ap (map (entry_line board.cell)) c.history.ensures.history)
    c.print_entries.ensures)
    (prints_as
    (ap (λ (cell : Cell). map (still_line cell) c.waiting.result.now) on_cell ∙ ap (map (still_line board.cell)) c.waiting.ensures.waiters)
    c.print_waiters.ensures)
