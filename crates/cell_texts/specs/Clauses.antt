-- What the clauses of the readers and of their callers name.
pub use Rattle.cell_base.specs.declared.requests.Told.TheVariants.{Answered}
pub use Rattle.cell_base.specs.Fits.{CellFits, RequestFits, ShiftFits}
pub use Rattle.cell_file.specs.declared.reading.TheConstants.{MAX_CELL_BYTES}
pub use Rattle.shift_file.specs.Walk.{shift_of}
pub use Rattle.cell_texts.specs.RecordReads.{record_reads}
pub use Rattle.cell_texts.specs.Tests.{cell_file, cell_reads, known, record_file, shift_file}
pub use Rattle.cell_texts.specs.Texts.{job_line}
