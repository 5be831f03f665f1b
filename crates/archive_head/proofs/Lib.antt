mod Encoding
mod Places
mod Units
pub mod api
