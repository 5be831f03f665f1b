pub mod Sealing
pub mod Kept
