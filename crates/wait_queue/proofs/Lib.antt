-- Lemmas, grouped by subject.
pub mod Turns
pub mod Counts
pub mod Entering
pub mod Looks
pub mod Masks
pub mod Noting
pub mod Others
pub mod Quiet
pub mod Renewing
pub mod Scanning
pub mod Settling
