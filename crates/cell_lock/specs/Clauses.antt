-- What the clauses of the lock name of the model and of the durable cell.
pub use Rattle.cell_base.specs.Fits.{RequestFits}
pub use Rattle.cell_base.specs.Histories.{IsLegal, after, entries_of, grants}
pub use Rattle.cell_base.specs.Plans.{plan_step}
pub use Rattle.durable_cell.specs.Acknowledged.{HasSince, MovesSafely}
pub use Rattle.durable_cell.specs.Asked.{Answers, unsure_grant}
pub use Rattle.durable_cell.specs.Kept.{KeepsDisk}
