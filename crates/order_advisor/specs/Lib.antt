-- What the contracts cite.
pub mod Orders
pub mod Advices
pub mod Sets
