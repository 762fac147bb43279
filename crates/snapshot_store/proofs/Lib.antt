pub mod Calls
pub mod ExampleRuns
pub mod Keeps
pub mod Opening
pub mod Places
pub mod Published
pub mod RowWords
pub mod RuleSays
