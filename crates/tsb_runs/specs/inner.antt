pub mod Latest
pub mod LeavesAt
