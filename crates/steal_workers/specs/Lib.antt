pub mod Lists
pub mod Holdings
pub mod Deques
pub mod Musters
pub mod Hands
