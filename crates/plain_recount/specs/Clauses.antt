-- What the clauses of the recount name of the model.
pub use Rattle.cell_base.specs.declared.cells.Cell.{Cell}
pub use Rattle.cell_base.specs.declared.cells.ResId.{ResId}
pub use Rattle.cell_base.specs.declared.requests.JobId.{JobId}
pub use Rattle.cell_base.specs.declared.requests.Reply.TheVariants.{Granted}
pub use Rattle.cell_base.specs.Fits.{RequestFits, units_of}
pub use Rattle.cell_base.specs.Outcomes.{finish_first, is_waiting_on, outcome_of_entry, outcome_of_move}
pub use Rattle.cell_base.specs.Outcomes.{part_of, reply_to, state_after, without}
pub use Rattle.cell_base.specs.Policy.{HaveDistinctJobs, IsState, is_of_job}
pub use Rattle.cell_base.specs.Stages.{IsStage, stage_of}
