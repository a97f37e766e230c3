-- The lemmas, by what they are about.
pub mod FedFrames
pub mod FeedWalk
pub mod Fitting
pub mod FollowPrinting
pub mod FollowRoom
pub mod FollowTold
pub mod FollowWalk
pub mod FollowedFrames
pub mod FrameCuts
pub mod TakenFrames
