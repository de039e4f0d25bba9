-- How the rows, the levels and the index of a frozen book grow.
pub mod FrozenDepthFacts
pub mod FrozenFacts
pub mod IndexFacts
pub mod AgeOrderFacts
pub mod AgeSortFacts
pub mod DayFacts
pub mod RankFacts
pub mod RowsFacts
pub mod NextRowFacts
pub mod FreezeFacts
pub mod LinkFacts
pub mod ExistsFacts
