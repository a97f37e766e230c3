-- What the contracts cite.
pub mod Blanks
pub mod Journals
pub mod Readings
pub mod Reads
pub mod Replayed
