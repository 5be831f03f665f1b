pub mod Tables
pub mod Changes
pub mod Entries
pub mod Records
pub mod Faults
pub mod Meanings
