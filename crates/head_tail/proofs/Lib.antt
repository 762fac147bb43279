pub mod Crossed
pub mod Cuts
pub mod Ends
pub mod Parts
pub mod Positions
pub mod ReadRows
pub mod Sides
