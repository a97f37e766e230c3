-- What the contracts cite.
pub mod Acknowledged
pub mod Asked
pub mod DurableState
pub mod Kept
pub mod Made
pub mod Moments
pub mod Openings
pub mod Replays
pub mod Resumed
pub mod Reserved
pub mod StoredGrants
pub mod Clauses
