-- Lemmas, grouped by subject.
mod Counting
mod Ran
mod RunHistories
mod RunSessions
pub mod RunTold
