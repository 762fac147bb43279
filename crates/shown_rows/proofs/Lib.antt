pub mod Named
pub mod Parts
pub mod Restricted
pub mod Telling
pub mod Walks
