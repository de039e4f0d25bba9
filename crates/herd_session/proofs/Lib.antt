pub mod AnswerFacts
pub mod AskedFacts
pub mod ClosingFacts
pub mod FiledFacts
pub mod IntakeFacts
pub mod PieceFacts
pub mod ScopeFacts
