pub mod Mapped
pub mod Parts
pub mod Sums
