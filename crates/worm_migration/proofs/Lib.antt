pub mod Blocks
pub mod Pasts
