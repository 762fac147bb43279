pub mod Leading
pub mod Made
pub mod Paired
