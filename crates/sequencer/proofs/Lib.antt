pub mod Firsts
pub mod Releasing
pub mod Leasts
pub mod Running
pub mod Reported
pub mod Aheads
pub mod api
