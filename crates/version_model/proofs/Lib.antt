pub mod Orders
pub mod Kept
pub mod Places
pub mod Entries
pub mod Points
pub mod Climbing
pub mod api
