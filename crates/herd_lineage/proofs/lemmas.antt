pub mod Contained
pub mod ListFacts
pub mod LineagePush
pub mod LevelFacts
pub mod LevelReads
pub mod DepthFacts
