-- What the clauses of the Banker's test name of the model.
pub use Rattle.cell_base.specs.declared.limits.TheConstants.{MAX_UNITS}
pub use Rattle.cell_base.specs.declared.requests.Part.{Part}
pub use Rattle.cell_base.specs.Fits.{CellFits, RequestFits, units_of}
pub use Rattle.cell_base.specs.Outcomes.{part_of, without}
pub use Rattle.cell_base.specs.Plans.{comes_first, next_part, resource_of_part, step_of, work}
pub use Rattle.cell_base.specs.Policy.{HaveDistinctJobs, is_admitted}
pub use Rattle.cell_base.specs.Stages.{IsStage, stage_of}
