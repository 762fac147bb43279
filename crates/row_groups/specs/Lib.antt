pub mod Members
pub mod Kept
pub mod Slots
pub mod Rows
pub mod Indexes
