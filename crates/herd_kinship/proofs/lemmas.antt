pub mod Lists
pub mod numbers
pub mod ancestry
pub mod laws
pub mod lineages
pub mod tracing
pub mod sires
