pub mod Words
pub mod Commands
pub mod Program
pub mod Found
