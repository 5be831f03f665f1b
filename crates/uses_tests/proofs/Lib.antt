pub mod Going
pub mod Crashing
