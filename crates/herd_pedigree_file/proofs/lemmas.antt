pub mod NumberFacts
pub mod GrammarFacts
pub mod ReadingFacts
