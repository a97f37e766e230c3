-- Lemmas, grouped by subject.
pub mod Advising
pub mod Weighing
