-- What the contracts cite.
pub mod Openings
pub mod Views
pub mod Law
pub mod Passes
pub mod Steps
pub mod Clauses
