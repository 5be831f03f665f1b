pub mod Addresses
pub mod OneValue
