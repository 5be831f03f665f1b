pub mod Lines
pub mod LineLaws
pub mod Reading
pub mod inner
