-- The laws of A there: the decomposition, a column, the rows of the inverse.
pub mod Decompose
pub mod ColumnSums
pub mod RowProducts
pub mod LawFacts
