-- A frozen book, and what stands between a book and its rows.
pub mod Hinted
pub mod Listed
pub mod Frozen
pub mod Rows
pub mod NumberIndex
pub mod Freeze
pub mod AgeOrder
