-- What the contracts cite.
pub mod Deliveries
pub mod Fed
pub mod Followers
pub mod Following
pub mod Frames
