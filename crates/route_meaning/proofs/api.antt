pub mod Sorting
pub mod OneOrder
pub mod Settling
pub mod Agreeing
pub mod Beginning
pub mod Front
pub mod Ranges
pub mod There
