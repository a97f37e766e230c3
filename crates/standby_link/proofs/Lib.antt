-- The lemmas, by what they are about.
pub mod Fed
pub mod FeedIsFed
pub mod Following
pub mod Bytes
pub mod Histories
pub mod Keeping
pub mod Taking
