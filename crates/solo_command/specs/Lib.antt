pub mod Clauses
pub mod Solo
pub mod SoloRuns
