-- Lemmas, grouped by subject.
pub mod Acknowledging
pub mod Grown
pub mod HandedBack
pub mod Halts
pub mod Making
pub mod Moving
pub mod Opened
pub mod Replaying
pub mod Tokens
pub mod Unasked
