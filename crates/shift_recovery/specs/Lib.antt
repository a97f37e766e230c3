-- What the contracts cite.
pub mod Windows
pub mod Walked
pub mod Opening
pub mod Recovering
pub mod Scanning
