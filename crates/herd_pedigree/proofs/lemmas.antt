pub mod LawfulChanges
pub mod PartOfFacts
pub mod store
