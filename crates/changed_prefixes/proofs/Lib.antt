pub mod Members
pub mod Equal
pub mod Asking
pub mod Reporting
pub mod Taking
pub mod Spans
pub mod Ordered
pub mod Cut
