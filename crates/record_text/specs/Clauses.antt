-- What the clauses of the readers name of lines and blocks.
pub use Rattle.cell_base.specs.Fits.{CellFits}
pub use Rattle.record_text.specs.declared.record.TheConstants.{MAX_RECORD_BYTES}
pub use Rattle.record_text.specs.declared.stages.Stage.TheVariants.{Between}
pub use Rattle.record_text.specs.BadLines.{IsRecordOf, RefusedAt}
pub use Rattle.record_text.specs.Blocks.{AreWellFormed}
pub use Rattle.record_text.specs.Progress.{Reading}
pub use Rattle.record_text.specs.Remains.{AreRead}
pub use Rattle.record_text.specs.Turns.{LineFits, Suits, unread, with_line}
