-- What follows from what a book may be.
pub mod PathFacts
pub mod BookFacts
pub mod DepthsFacts
pub mod PermutedFacts
pub mod FaultFacts
pub mod WrittenFacts
