pub mod Animals
pub mod Books
pub mod Task
