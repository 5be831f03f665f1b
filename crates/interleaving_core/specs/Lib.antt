pub mod Steps
pub mod SoFar
pub mod World
pub mod Turns
pub mod Does
pub mod Headline
