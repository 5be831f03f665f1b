pub mod LiveKeys
pub mod Latest
pub mod Representing
pub mod Steps
