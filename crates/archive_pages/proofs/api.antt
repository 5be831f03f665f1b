pub mod Stored
pub mod Histories
pub mod Representing
pub mod Creating
pub mod Moving
pub mod Giving
pub mod Passing
