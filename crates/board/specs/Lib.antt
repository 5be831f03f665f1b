pub mod Past
pub mod Views
pub mod Words
pub mod Opened
pub mod inner
