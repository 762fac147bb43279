pub mod VerdictEntries
pub mod WatchedEntries
pub mod WrittenEntries
