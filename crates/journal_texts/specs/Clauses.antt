-- What the clauses of the readers of journals, of records and of their callers name.
pub use Rattle.journal_texts.specs.JournalReads.{GrantsFit, IsAfterGrants, IsFound, IsReplayed, IsStable}
pub use Rattle.journal_texts.specs.Recorded.{EntriesFit, IsAskedUnder, IsFresh, IsHaltedIn, IsUnhaltedIn, recorded_outcome}
pub use Rattle.journal_texts.specs.Records.{IsRecordedOrHalted}
pub use Rattle.journal_texts.specs.Tests.{to_add, to_read}
