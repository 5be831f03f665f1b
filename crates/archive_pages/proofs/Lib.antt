mod Timing
mod Lanes
mod Scaling
pub mod api
mod Next
