pub mod Clauses
pub mod FaultNumbers
pub mod Numbers
pub mod OneWay
pub mod Parting
pub mod RecordReads
pub mod Tests
pub mod Texts
