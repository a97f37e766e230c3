pub mod Clauses
pub mod Hybrid
pub mod HybridRuns
pub mod Lines
