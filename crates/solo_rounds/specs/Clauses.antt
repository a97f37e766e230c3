-- What the clauses name.
pub use Rattle.cell_base.specs.declared.cells.Cell.{Cell}
pub use Rattle.cell_base.specs.declared.limits.TheConstants.{MAX_PATIENCE, MAX_SESSIONS, MAX_STEPS}
pub use Rattle.cell_base.specs.declared.requests.Part.{Part}
pub use Rattle.cell_base.specs.declared.shifts.Entry.{Entry}
pub use Rattle.cell_base.specs.declared.shifts.Shift.{Shift}
pub use Rattle.cell_base.specs.Fits.{RequestFits, ShiftFits, steps_of}
pub use Rattle.cell_base.specs.Rounds.{IsRoundRobin}
pub use Rattle.admission_core.specs.CoreState.{CoreState}
