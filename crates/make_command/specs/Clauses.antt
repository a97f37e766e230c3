-- What the clauses of `make` name.
pub use Rattle.cell_base.specs.declared.limits.TheConstants.{MAX_STEPS}
pub use Rattle.cell_base.specs.Fits.{steps_of}
pub use Rattle.cell_base.specs.Plans.{Drains, plan_of}
pub use Rattle.make_command.specs.Make.{IsSummaryOf, make}
pub use Rattle.make_command.specs.Summaries.{granted_in, left_words, number_words, refused_in}
pub use Rattle.make_command.specs.Summaries.{size_words, summary_lines, summary_of, told_words}
