pub mod TextFacts
pub mod Pieces
pub mod Exits
