-- Lemmas, grouped by subject.
pub mod Among
pub mod Flushing
pub mod LentRuns
pub mod Taking
