pub mod Coalesced
pub mod Columns
pub mod Kept
