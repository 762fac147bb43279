pub mod Columns
pub mod Gaps
pub mod Stood
pub mod Tellings
pub mod TextsTold
pub mod WatchedRows
