pub mod Head
pub mod inner
