pub mod ChangeFacts
pub mod CopyFacts
pub mod FaultFacts
pub mod RegisterFacts
pub mod RunLemmas
