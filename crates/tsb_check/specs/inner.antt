pub mod Reported
pub mod Going
pub mod Columns
pub mod GoingUnder
