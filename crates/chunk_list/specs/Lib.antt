pub mod Blocks
pub mod Chunked
