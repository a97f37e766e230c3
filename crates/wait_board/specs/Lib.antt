-- What the contracts cite.
pub mod Boards
pub mod BoardState
pub mod Laws
