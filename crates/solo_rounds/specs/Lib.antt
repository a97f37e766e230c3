-- What the contracts cite.
pub mod Clauses
pub mod Standing
pub mod Underway
pub mod SoloRuns
pub mod Asking
