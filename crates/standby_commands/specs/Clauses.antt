-- What the clauses of `follow` name.
pub use Rattle.journal_format.specs.Replayed.{AreDue}
pub use Rattle.journal_texts.specs.Clauses.{IsFresh}
pub use Rattle.standby_commands.specs.Following.{HasFollowedOn, IsFollowedOnJournal, StopFits, end_outcome, follow_outcome}
pub use Rattle.standby_commands.specs.FrameFiles.{frames_in}
