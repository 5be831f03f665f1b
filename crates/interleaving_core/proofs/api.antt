pub mod GoingOn
pub mod Right
pub mod Batches
pub mod Joining
