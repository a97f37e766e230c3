-- The steps of a drain in a durable cell: each of them was granted, or one of them halted; and what else the clauses of `drain` name.
pub use Rattle.cell_base.specs.Policy.{IsAdmitted}
pub use Rattle.durable_cell.specs.DurableState.{first_parts}
pub use Rattle.durable_cell.specs.Kept.{KeepsHistory}
pub use Rattle.journal_format.specs.Replayed.{AreDue}
pub use Rattle.cell_walks.specs.Allowed.{StandsForAdded}
pub use Rattle.cell_commands.specs.Drain.{IsDrained}
use Rattle.cell_base.specs.Plans.{plan_of}
use Rattle.durable_cell.specs.DurableState.{DurableState}
use Rattle.journal_texts.specs.AskedSteps.{IsAskedIn}

-- each step of the plan was granted, or one halted
abbrev pub IsDrainedIn : {D : Type 0} → DurableState D → DurableState D → Type 0
IsDrainedIn old new = IsAskedIn (plan_of old.cell (first_parts old)) old new
