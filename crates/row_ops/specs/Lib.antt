pub mod Copies
pub mod Filter
pub mod Made
pub mod Viewer
