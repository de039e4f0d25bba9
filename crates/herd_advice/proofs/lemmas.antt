pub mod BookFacts
pub mod BookPaths
pub mod FrozenFacts
pub mod ContributionFacts
pub mod MatingFacts
