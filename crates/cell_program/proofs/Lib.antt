-- Lemmas, grouped by subject.
pub mod Journals
pub mod Promised
pub mod Statuses
