-- What the clauses of the command name.
pub use Rattle.cell_base.specs.Fits.{CellFits, ShiftFits}
pub use Rattle.cell_base.specs.Plans.{work}
pub use Rattle.step_text.specs.Steps.{IsStep}
pub use Rattle.line_text.specs.declared.line.TheConstants.{LINE_BYTES}
pub use Rattle.record_text.specs.Fitting.{EntryFits}
pub use Rattle.record_text.specs.Lines.{line_of}
pub use Rattle.banker_check.specs.HybridPlans.{plan_h_of}
pub use Rattle.hybrid_rounds.specs.Histories.{taken}
pub use Rattle.record_printer.specs.Blocks.{left_lines, plan_lines, step_line}
pub use Rattle.hybrid_command.specs.HybridRuns.{IsHybridRun, lines_of_run}
pub use Rattle.hybrid_command.specs.Lines.{HistoryFits, block_of, blocked_words, entry_line, history_lines, left_in_hybrid}
