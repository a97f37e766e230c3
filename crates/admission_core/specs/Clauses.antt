-- What the clauses of the core name of the model.
pub use Rattle.cell_base.specs.declared.cells.ResId.{ResId}
pub use Rattle.cell_base.specs.declared.requests.Part.{Part}
pub use Rattle.cell_base.specs.declared.requests.Refusal.TheVariants.{Saturated}
pub use Rattle.cell_base.specs.declared.requests.Reply.TheVariants.{Granted, Refused}
pub use Rattle.cell_base.specs.declared.requests.Request.TheVariants.{Move, Process, Unload}
pub use Rattle.cell_base.specs.Fits.{CellFits, RequestFits, units_of}
pub use Rattle.cell_base.specs.Outcomes.{part_of, reply_to, state_after}
pub use Rattle.cell_base.specs.Plans.{plan_step, work}
pub use Rattle.cell_base.specs.Policy.{IsAdmitted}
pub use Rattle.cell_base.specs.Stages.{IsStage, Stage, order_at, stage_of}
