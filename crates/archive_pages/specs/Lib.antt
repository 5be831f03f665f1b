pub mod Places
pub mod Stored
pub mod Represented
pub mod Changes
pub mod Refusals
pub mod Batches
