pub mod Turns
pub mod inner
