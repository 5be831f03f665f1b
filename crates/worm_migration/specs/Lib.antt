pub mod Refusals
pub mod Settled
pub mod Shelves
pub mod Columns
