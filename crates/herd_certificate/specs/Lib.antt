pub mod Ancestors
pub mod Sealed
pub mod Parts
pub mod Faultless
