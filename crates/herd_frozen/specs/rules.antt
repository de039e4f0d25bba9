-- What a book is and may be.
pub mod Paths
pub mod Book
pub mod ParentFault
pub mod Lawful
pub mod Depths
