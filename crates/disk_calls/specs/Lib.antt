pub mod Represented
pub mod inner
