pub mod Plants
pub mod PlantStates
pub mod PlantSteps
pub mod PlantLaws
pub mod SmallPlant
pub mod Standstills
