pub mod writing
pub mod PartFacts
