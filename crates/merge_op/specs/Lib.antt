pub mod Merged
pub mod Regions
pub mod Steps
pub mod Made
