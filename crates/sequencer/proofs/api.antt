pub mod Sieving
pub mod Setting
pub mod Rising
pub mod Calls
pub mod Beyond
