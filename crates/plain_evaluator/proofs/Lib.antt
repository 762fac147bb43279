pub mod TablesInTurn
pub mod GroupCells
pub mod Matches
pub mod Numbering
pub mod ReadyOperators
pub mod SumsSoFar
