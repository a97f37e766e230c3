-- What the contracts of the real outside cite.
pub mod InSource
pub mod OutSink
