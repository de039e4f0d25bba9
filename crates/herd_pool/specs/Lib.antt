pub mod Blocks
pub mod Levels
pub mod Sires
pub mod Workers
