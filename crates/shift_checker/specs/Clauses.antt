-- What the clauses of the checker name of the model, of records and of their lines.
pub use Rattle.cell_base.specs.Fits.{CellFits, RequestFits}
pub use Rattle.cell_base.specs.Histories.{is_granted, state_after_entry}
pub use Rattle.cell_base.specs.Outcomes.{reply_to, state_after}
pub use Rattle.record_text.specs.declared.blocks.Block.{Block}
pub use Rattle.record_text.specs.declared.stages.Stage.TheVariants.{Between}
pub use Rattle.record_text.specs.Blocks.{AreWellFormed, BlockIsWellFormed, line_count, tail_count}
pub use Rattle.record_text.specs.Progress.{Reading}
pub use Rattle.record_text.specs.Turns.{LineFits, Suits, turn_of, unread, with_line}
