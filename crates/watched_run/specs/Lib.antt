pub mod Messages
pub mod Standing
pub mod Stopped
pub mod ToCome
pub mod Told
