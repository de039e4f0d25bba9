-- A lineage as a lawful ancestry, its animals named by their ranks.
pub mod Ranks
pub mod LineageFacts
pub mod ParentsFacts
pub mod ContributionFacts
