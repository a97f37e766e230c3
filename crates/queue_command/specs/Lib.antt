pub mod Clauses
pub mod Lines
pub mod Queue
pub mod QueueRuns
