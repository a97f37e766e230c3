-- What the clauses of the server name.
pub use Rattle.std.specs.Prelude.{codes}
pub use Rattle.cell_base.specs.declared.requests.Reply.TheVariants.{Granted, Refused}
pub use Rattle.cell_base.specs.declared.requests.Told.TheVariants.{Answered}
pub use Rattle.cell_base.specs.Fits.{CellFits, RequestFits}
pub use Rattle.cell_base.specs.Neighborhoods.{counted}
pub use Rattle.cell_base.specs.Outcomes.{part_of, reply_to}
pub use Rattle.cell_base.specs.Plans.{plan_step}
pub use Rattle.cell_base.specs.Stages.{IsStage, stage_of}
pub use Rattle.step_text.specs.Steps.{IsStep}
pub use Rattle.serve_command.specs.Answers.{asked_words, count_of, end_words, halted_line, item_line, job_words, jobs_words, last_of, last_words, line_number, reason_words}
pub use Rattle.serve_command.specs.Answers.{part_words, reply_words, step_or_none, step_words, still_line, still_lines}
pub use Rattle.serve_command.specs.Asks.{AskFits, IsAsked, IsQuestion, IsTextOf, SaysAsk}
pub use Rattle.serve_command.specs.Serving.{CountsGrant, FindsFull, HasAnswered, IsAskAnswered, IsSaid, KeepsWaiters, StandsAt, TakesOneLine}
pub use Rattle.serve_command.specs.Talks.{Talk, asked_for, reply_told, waiting_told}
pub use Rattle.serve_command.specs.Waits.{BeginsWait, EndsWait, FullAt, IsDecided, IsOpen, NotesGrant, Settles}
pub use Rattle.serve_command.specs.declared.asks.Ask.TheVariants.{Step, Wait, Cancel, Parts, Jobs}
pub use Rattle.serve_command.specs.declared.command.TheConstants.{MAX_SERVED}
pub use Rattle.serve_command.specs.declared.replies.TheConstants.{MAX_REPLIES, MAX_WAITERS}
