-- What the contracts cite.
pub mod Blocks
