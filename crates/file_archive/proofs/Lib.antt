pub mod OpenCount
