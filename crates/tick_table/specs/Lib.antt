pub mod Exact
pub mod Kept
pub mod Placed
pub mod Places
pub mod Slots
pub mod Ticking
pub mod Versions
