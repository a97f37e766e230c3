-- Lemmas, grouped by subject.
pub mod Askings
pub mod Began
pub mod BeginTold
pub mod CarriedParts
pub mod CarriedState
pub mod CarryWalk
pub mod Comparing
pub mod Firsts
pub mod Granting
pub mod SameCell
pub mod StartCuts
