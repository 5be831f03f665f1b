pub mod OneCommand
pub mod Words
pub mod Serving
pub mod Unmarked
pub mod ReadOnly
pub mod Taken
