pub mod Choice
pub mod Gaps
pub mod Moves
pub mod Ranges
pub mod Runs
pub mod Sets
