pub mod Binding
pub mod Checks
pub mod Drafts
pub mod Plain
pub mod Refusals
pub mod Said
pub mod Scripts
pub mod SoFar
