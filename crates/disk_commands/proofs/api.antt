pub mod Files
pub mod Loads
