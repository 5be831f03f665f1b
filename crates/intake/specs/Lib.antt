pub mod Ring
pub mod Outlines
pub mod Calls
pub mod inner
