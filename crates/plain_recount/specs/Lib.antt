pub mod Asking
pub mod Clauses
pub mod Entering
pub mod Leading
pub mod RecountState
