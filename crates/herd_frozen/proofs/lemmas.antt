pub use Rattle.herd_lineage.proofs.lemmas.Contained
pub use Rattle.herd_lineage.proofs.lemmas.ListFacts
pub mod freezing
pub mod places
pub mod rules
