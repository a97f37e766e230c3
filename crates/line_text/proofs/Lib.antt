-- Lemmas, grouped by subject.
mod Digits
