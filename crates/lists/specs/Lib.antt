pub mod Shelves
pub mod Lends
