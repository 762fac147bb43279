pub mod Edits
pub mod Entries
