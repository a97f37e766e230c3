-- What the clauses of this crate name of records, their lines and their verdicts.
pub use Rattle.cell_base.specs.Plans.{resource_of_part}
pub use Rattle.record_text.specs.Blocks.{AreBlocks}
pub use Rattle.record_text.specs.Lines.{line_of}
pub use Rattle.record_text.specs.Records.{text_of_block}
pub use Rattle.record_text.specs.Spaced.{spaced}
pub use Rattle.record_text.specs.declared.blocks.Block.{Block}
pub use Rattle.shift_checker.specs.Judging.{judge}
pub use Rattle.shift_checker.specs.declared.verdict.Verdict.TheVariants.{Yes}
