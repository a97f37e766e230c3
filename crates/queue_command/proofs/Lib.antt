-- Lemmas, grouped by subject.
pub mod Fitting
pub mod Queueing
pub mod Wording
