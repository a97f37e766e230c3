-- Lemmas, grouped by subject.
pub mod Finding
pub mod Ranges
pub mod Right
pub mod Rows
pub mod Standing
pub mod Written
