-- What the contracts of a peer cite.
pub mod Meanings
pub mod MemPeer
pub mod Moments
pub mod Reads
pub mod Runs
