-- Lemmas, grouped by subject.
pub mod Added
pub mod AskedSteps
pub mod Disks
pub mod HaltedHistories
pub mod Openings
pub mod Recording
pub mod Replays
