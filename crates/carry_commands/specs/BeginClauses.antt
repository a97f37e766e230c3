-- What the clauses of `begin` name.
pub use Rattle.cell_base.specs.Histories.{all_granted}
pub use Rattle.durable_cell.specs.DurableState.{first_parts}
pub use Rattle.durable_cell.specs.Kept.{KeepsHistory}
pub use Rattle.journal_format.specs.Replayed.{AreDue}
pub use Rattle.record_text.specs.StartFiles.{IsPlacing, start_reads}
pub use Rattle.record_text.specs.declared.start.TheConstants.{MAX_START_LINES}
pub use Rattle.cell_walks.specs.Allowed.{StandsForAdded}
pub use Rattle.carry_commands.specs.Beginning.{EndsBeforeJournal, HasBegun, IsBegunOnJournal, IsGrantedStart, IsRefusedStart}
pub use Rattle.carry_commands.specs.Starts.{ArePrefix, HasCompared, IsOtherStart, granted_start, start_file}
pub use Rattle.journal_texts.specs.AskedSteps.{AreAsked, IsAskedIn, step_grant}
