pub mod Runs
pub mod inner
