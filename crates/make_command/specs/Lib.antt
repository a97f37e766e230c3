pub mod Clauses
pub mod Make
pub mod Summaries
