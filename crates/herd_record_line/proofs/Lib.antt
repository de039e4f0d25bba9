pub mod CutFacts
pub mod ReadingFacts
pub mod RecordFacts
