pub mod Prefixes
pub mod RisingCounts
