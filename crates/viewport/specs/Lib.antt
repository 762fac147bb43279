pub mod Examples
pub mod Mirrored
pub mod Passing
pub mod Slices
pub mod Standing
pub mod Subscribed
pub mod Watching
