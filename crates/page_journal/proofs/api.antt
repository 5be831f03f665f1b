pub mod Numbering
pub mod Same
pub mod Kept
