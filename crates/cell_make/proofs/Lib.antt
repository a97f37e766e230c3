-- The lemmas, by what they are about.
mod Sequences
mod Lists
mod Spelling
mod CellFit
mod Work
mod ShiftFit
