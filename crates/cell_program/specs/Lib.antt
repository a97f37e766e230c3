pub mod Causes
pub mod Headline
pub mod Promised
pub mod Walks
