pub mod Start
pub mod Images
pub mod Refusals
pub mod Device
pub mod Tx
pub mod inner
