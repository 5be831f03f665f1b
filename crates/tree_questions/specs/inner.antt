pub mod Left
pub mod Reporting
pub mod Taking
pub mod Gathered
pub mod Named
