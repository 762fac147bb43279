pub mod Among
pub mod Booleans
pub mod Every
pub mod Parts
pub mod Ranges
pub mod Rising
