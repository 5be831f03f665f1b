pub mod Reaching
pub mod Numbers
pub mod Moves
