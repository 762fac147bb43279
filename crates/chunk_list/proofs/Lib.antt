pub mod Changing
pub mod Edits
pub mod Extended
pub mod Halves
pub mod Joined
pub mod Runs
pub mod Sums
pub mod Searches
