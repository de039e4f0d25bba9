-- How what is kept changes with the book.
pub mod RecordsFacts
pub mod PlaceFacts
pub mod DepthFacts
pub mod SetFacts
pub mod UndoFacts
pub mod ListFacts
pub mod ProgenyFacts
pub mod JoinFacts
pub mod PartFacts
pub mod PopFacts
pub mod ChainFacts
pub mod CarryFacts
pub mod CorrectionFacts
pub mod CalvedFacts
pub mod AncestorFacts
