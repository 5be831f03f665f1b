pub mod Catching
mod Crowded
pub mod Seen
mod Readers
pub mod Reporting
pub mod Answering
pub mod Looking
mod Everything
pub mod Representing
