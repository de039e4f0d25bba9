pub mod MarkedFacts
pub mod PruningFacts
pub mod EntryFacts
pub mod WindowFacts
