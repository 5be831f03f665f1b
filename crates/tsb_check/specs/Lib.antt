pub mod Counted
pub mod InUse
pub mod Pages
pub mod inner
