pub mod Disks
pub mod Slots
pub mod Faults
pub mod inner
