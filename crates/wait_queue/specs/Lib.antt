-- What the contracts cite.
pub mod Waiting
pub mod Turns
pub mod Watching
pub mod Counting
pub mod Queues
pub mod Laws
