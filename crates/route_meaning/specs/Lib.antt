pub mod Merged
pub mod Holds
pub mod Rows
pub mod Events
pub mod Changed
pub mod History
pub mod inner
