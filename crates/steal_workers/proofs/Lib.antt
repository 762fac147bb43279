pub mod Listing
pub mod Holding
pub mod Tallies
pub mod Mustering
pub mod Marking
