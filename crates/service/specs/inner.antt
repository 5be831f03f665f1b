pub mod Naming
pub mod Taking
pub mod Asking
pub mod Feeding
pub mod Loading
