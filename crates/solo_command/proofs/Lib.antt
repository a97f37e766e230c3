-- Lemmas, grouped by subject.
mod Printing
mod Rounds
mod Soloing
