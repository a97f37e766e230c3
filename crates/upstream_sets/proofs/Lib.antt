pub mod Stages
pub mod Floors
pub mod Adding
