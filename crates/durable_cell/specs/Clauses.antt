-- What the clauses of a durable cell name of the model, of its journal and of its own.
pub use Rattle.cell_base.specs.declared.requests.Reply.TheVariants.{Granted}
pub use Rattle.cell_base.specs.declared.shifts.Grant.{Grant}
pub use Rattle.cell_base.specs.Fits.{CellFits, RequestFits}
pub use Rattle.cell_base.specs.Histories.{IsLegal}
pub use Rattle.cell_base.specs.Outcomes.{reply_to}
pub use Rattle.cell_base.specs.Policy.{IsAdmitted}
pub use Rattle.journal_format.specs.Journals.{StandsFor}
pub use Rattle.durable_cell.specs.DurableState.{first_parts, parts}
pub use Rattle.journal_format.specs.Replayed.{AreDue, opened_as}
pub use Rattle.durable_cell.specs.Reserved.{IsReserved}
