pub mod OneReading
pub mod Reached
pub mod Reported
