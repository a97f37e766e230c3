-- Lemmas, grouped by subject.
pub mod Sums
pub mod Progressing
pub mod Going
pub mod Standing
pub mod Rounding
