-- Lemmas, grouped by subject.
mod Blocks
mod Fitting
mod Playing
mod Stepping
mod Wording
