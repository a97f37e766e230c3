-- Lemmas, grouped by subject.
pub mod Histories
pub mod Views
pub mod Acknowledging
pub mod Turns
pub mod Dealing
pub mod Seats
pub mod Asking
pub mod Answering
pub mod Gathering
pub mod Passes
