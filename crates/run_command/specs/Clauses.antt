-- What the clauses of `run` name.
pub use Rattle.cell_base.specs.Fits.{ShiftFits, steps_of}
pub use Rattle.cell_base.specs.Starts.{AreFirstSteps}
pub use Rattle.journal_format.specs.Replayed.{AreDue}
pub use Rattle.cell_lock.specs.Openings.{opening_of}
pub use Rattle.cell_lock.specs.Passes.{new_passes}
pub use Rattle.cell_sessions.specs.Starting.{AreBegun, first_of_shift}
pub use Rattle.cell_walks.specs.Allowed.{StandsForAdded}
pub use Rattle.run_command.specs.JournalRuns.{HasStarted, IsAfterSessions, IsRunOnJournal}
pub use Rattle.run_command.specs.Run.{IsShiftRun, run}
