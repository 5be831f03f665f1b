mod Keeping
mod Outcomes
pub mod api
