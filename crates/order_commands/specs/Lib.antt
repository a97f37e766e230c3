pub mod Advised
pub mod Lines
pub mod Orders
pub mod Shown
