-- Lemmas, grouped by subject.
pub mod DiskLaws
pub mod Laws
pub mod OpenedOnce
pub mod Promising
pub mod Standing
pub mod Steps
pub mod Telling
pub mod TwoTests
pub mod Walked
