pub mod Carrying
pub mod Clauses
pub mod Judging
pub mod Lines
pub mod Replies
pub mod Saying
