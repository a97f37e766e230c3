-- What the contracts cite.
pub mod Acknowledged
pub mod LiveState
pub mod Openings
