pub mod Clauses
pub mod Feed
pub mod Follow
pub mod FollowTold
pub mod Following
pub mod FrameFiles
pub mod Lines
