-- Lemmas, grouped by subject.
pub mod Ends
pub mod Fronts
pub mod HeadReading
pub mod HeadTests
pub mod OnlyReading
pub mod OpenHeads
pub mod Replaying
pub mod Standing
pub mod Stepping
pub mod Uniqueness
pub mod Windowed
