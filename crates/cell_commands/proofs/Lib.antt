-- Lemmas, grouped by subject.
pub mod Answering
pub mod Asking
pub mod Checking
pub mod DrainTold
pub mod Draining
pub mod PlanSteps
pub mod Planning
pub mod RecordCuts
pub mod Showing
