-- Columns of A, sire by sire.
pub mod ColumnFacts
pub mod PassedOn
pub mod Collecting
pub mod CalfFacts
pub mod CalvesBelow
pub mod CalfListFacts
pub mod BySires
