-- Lemmas, grouped by subject.
pub mod Traces
pub mod Turns
pub mod Ends
pub mod Counting
pub mod Going
pub mod Asking
