pub mod Stepped
pub mod Each
pub mod Planning
pub mod Roomy
