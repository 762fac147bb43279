pub mod ComparedPairs
pub mod Comparing
pub mod Differing
pub mod MadeChange
pub mod MadeRows
pub mod MappedParts
pub mod Placed
