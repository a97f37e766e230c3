-- Lemmas, grouped by subject.
pub mod Cuts
pub mod Disks
pub mod Wording
