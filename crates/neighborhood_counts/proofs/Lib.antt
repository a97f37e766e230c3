pub mod Numbers
pub mod Full
pub mod Steps
