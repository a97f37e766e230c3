-- Lemmas, grouped by subject.
pub mod Differences
pub mod FirstPieces
