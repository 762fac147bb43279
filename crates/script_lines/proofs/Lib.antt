pub mod LexemeLemmas
pub mod LineLemmas
pub mod LinesKept
pub mod ListLemmas
pub mod MakingsKept
pub mod PartsKept
pub mod TestLemmas
pub mod TokenLemmas
