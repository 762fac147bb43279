pub mod Ends
pub mod Made
