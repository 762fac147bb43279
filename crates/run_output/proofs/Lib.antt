pub mod Behind
pub mod EntryTexts
pub mod RunEntries
pub mod RunTables
pub mod RunTexts
pub mod RunTold
