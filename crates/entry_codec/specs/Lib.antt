-- What the contracts cite.
pub mod Decoding
mod Numbers
pub mod RecordLaws
pub mod Records
