pub mod Asked
pub mod Calls
pub mod Counts
pub mod Files
pub mod Loads
pub mod Written
