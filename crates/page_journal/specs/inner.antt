pub mod Writing
pub mod Laying
pub mod Survey
pub mod Entering
pub mod Creating
