pub mod Copied
pub mod Crossed
pub mod Planned
pub mod Viewed
pub mod Walked
