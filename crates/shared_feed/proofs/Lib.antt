pub mod Making
pub mod Following
pub mod GivingUp
pub mod Streams
pub mod Limits
