-- The lemmas, by what they are about.
pub mod Pairs
pub mod Scans
pub mod Steps
pub mod Serving
pub mod Asks
pub mod Effects
pub mod Room
pub mod Keeping
