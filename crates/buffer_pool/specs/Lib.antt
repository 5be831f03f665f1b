pub mod Held
pub mod Pool
pub mod Refusals
pub mod inner
