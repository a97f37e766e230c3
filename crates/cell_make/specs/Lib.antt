-- What the contracts cite.
pub mod Draws
pub mod Names
pub mod Cells
pub mod Shifts
