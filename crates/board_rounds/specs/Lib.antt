pub mod Clauses
pub mod Rounds
pub mod Underway
