pub mod Clauses
pub mod JournalRuns
pub mod Run
pub mod RunTold
