pub mod store
pub mod Pedigree
pub mod Part
