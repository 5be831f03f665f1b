pub mod Limits
pub mod Does
