pub mod Steps
pub mod PageSteps
pub mod ColumnSpots
pub mod Arriving
