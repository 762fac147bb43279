pub mod Wholes
pub mod Written
