-- Lemmas, grouped by subject.
pub mod Calls
pub mod Written
