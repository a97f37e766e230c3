-- What the clauses of `solo` name.
pub use Rattle.solo_command.specs.Solo.{IsSoloRecord, solo}
pub use Rattle.solo_command.specs.SoloRuns.{ArePrinted, IsAtStart, IsSoloDelivered}
