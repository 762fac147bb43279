pub mod Gives
pub mod Stops
