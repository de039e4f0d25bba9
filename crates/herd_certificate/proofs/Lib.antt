pub mod AncestorFacts
pub mod PartFacts
mod ShownFacts
mod FaultlessFacts
mod AcceptedFacts
mod WrittenFacts
