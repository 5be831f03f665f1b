pub mod Numbers
pub mod Fields
pub mod Loop
pub mod Peers
pub mod Routes
pub mod Sizes
pub mod TableRows
pub mod Indexed
pub mod Written
pub mod Measures
pub mod Decoding
mod PeersReported
pub mod Prefixes
pub mod Whole
pub mod api
