-- What the clauses of the command name.
pub use Rattle.cell_base.specs.Fits.{CellFits, ShiftFits}
pub use Rattle.line_text.specs.declared.line.TheConstants.{LINE_BYTES}
pub use Rattle.queue_command.specs.Lines.{BoardFits, BoardEntryFits, WaiterFits, asked_line, board_lines}
pub use Rattle.queue_command.specs.Lines.{entry_line, reason_words, still_line, told_lines}
pub use Rattle.queue_command.specs.QueueRuns.{IsQueueRun}
