-- Lemmas, grouped by subject.
pub mod Acknowledging
pub mod Committing
pub mod Opened
