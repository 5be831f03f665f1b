pub mod HandedBack
pub mod Reading
