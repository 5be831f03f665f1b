pub mod Represented
pub mod Reported
pub mod Held
pub mod Reopened
pub mod inner
