pub mod Operating
pub mod Inputs
pub mod Planned
