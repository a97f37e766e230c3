pub mod Clauses
pub mod Histories
pub mod Rounds
pub mod Underway
