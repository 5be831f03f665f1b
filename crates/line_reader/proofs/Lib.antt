pub mod Windows
pub mod Filling
pub mod OneLine
