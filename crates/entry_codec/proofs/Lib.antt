-- Lemmas, grouped by subject.
mod Between
pub mod Fields
pub mod ReadBack
mod Rows
