pub mod Reading
pub mod Turning
pub mod inner
