pub mod EntryFields
pub mod Peers
pub mod Bodies
pub mod OneItem
pub mod SomeItem
pub mod api
