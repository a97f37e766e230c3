-- Lemmas, grouped by subject.
pub mod BlockTexts
pub mod Fitted
pub mod Fitting
