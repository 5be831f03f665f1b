pub mod Lower
pub mod Children
