pub mod Facts
pub mod First
