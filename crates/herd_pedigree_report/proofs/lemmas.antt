pub mod ListFacts
pub mod PairFacts
pub mod NamedFacts
pub mod ReportFacts
