-- Lemmas, grouped by subject.
pub mod Promised
pub mod Written
