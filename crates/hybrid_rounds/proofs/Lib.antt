-- Lemmas, grouped by subject.
pub mod OneHistory
pub mod Taking
pub mod Asking
pub mod Turning
