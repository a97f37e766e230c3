-- Lemmas, grouped by subject.
pub mod Making
pub mod Rows
pub mod Sizes
