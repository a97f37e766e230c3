pub mod Bits
pub mod Counting
pub mod Entering
pub mod Found
pub mod Places
