pub mod RowFacts
pub mod FieldFacts
pub mod SoundFacts
mod TextFacts
mod AnswerFacts
mod FaultFacts
mod PartsFacts
pub mod ReadingFacts
pub mod FormFacts
