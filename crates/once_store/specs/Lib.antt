pub mod Digests
pub mod Shelves
pub mod Readers
