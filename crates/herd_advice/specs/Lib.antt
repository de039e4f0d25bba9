pub mod FrozenAncestry
pub mod BookCoefficients
pub mod BookRelationships
pub mod BookContributions
pub mod Mating
