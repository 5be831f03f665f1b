pub mod Placing
pub mod Laid
pub mod Distinct
pub mod Held
