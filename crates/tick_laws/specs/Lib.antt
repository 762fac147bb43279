pub mod Bounded
pub mod Checked
pub mod Fitting
pub mod Operated
pub mod Reached
pub mod Replaced
pub mod Room
