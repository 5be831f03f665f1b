pub mod Laying
pub mod Replaying
pub mod Covering
pub mod Splitting
pub mod Tearing
pub mod Results
pub mod Burnings
