-- Tracing, animal by animal.
pub mod Brought
pub mod Done
pub mod OwnUnits
pub mod KnownFacts
pub mod TracingFacts
pub mod UnderWayFacts
pub mod TermSums
