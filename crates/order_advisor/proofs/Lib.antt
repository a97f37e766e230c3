-- The lemmas, by what they are about.
pub mod Sums
pub mod Masks
pub mod Digits
pub mod Ties
pub mod Bounds
pub mod Rankings
pub mod Best
pub mod One
pub mod Sweeps
pub mod Costs
pub mod Worked
