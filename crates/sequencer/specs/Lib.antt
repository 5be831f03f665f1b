pub mod Late
pub mod Lanes
pub mod First
pub mod Ahead
pub mod Taking
pub mod Runs
pub mod inner
