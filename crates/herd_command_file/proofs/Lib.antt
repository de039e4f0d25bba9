mod BehindFacts
mod CommandReaderFacts
mod FieldFacts
pub mod FilingFacts
mod HeaderFacts
mod HerdFacts
