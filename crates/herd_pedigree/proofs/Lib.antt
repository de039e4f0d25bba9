pub mod lemmas
mod KeptFacts
mod CheckFacts
mod HeldFacts
mod RegistrationFacts
mod FoundFacts
