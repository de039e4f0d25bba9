-- What is kept of a book, by place.
pub mod Kept
pub mod Undo
pub mod Records
pub mod Ancestors
pub mod Calves
pub mod Carrying
pub mod Exchange
pub mod Correction
