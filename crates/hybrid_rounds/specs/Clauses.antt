-- What the clauses of the rounds name.
pub use Rattle.cell_base.specs.declared.requests.Part.{Part}
pub use Rattle.cell_base.specs.declared.limits.TheConstants.{MAX_STEPS, MAX_PATIENCE}
pub use Rattle.cell_base.specs.Fits.{RequestFits, ShiftFits, steps_of}
pub use Rattle.solo_rounds.specs.Underway.{IsReady, HaveEnded, asks_left, HasEndedAt}
pub use Rattle.hybrid_rounds.specs.Histories.{after_h}
pub use Rattle.hybrid_rounds.specs.declared.entries.HybridEntry.{HybridEntry}
pub use Rattle.hybrid_rounds.specs.Rounds.{IsHybridRoundRobin}
pub use Rattle.hybrid_rounds.specs.Underway.{AsksHybrid, IsUnderway}
