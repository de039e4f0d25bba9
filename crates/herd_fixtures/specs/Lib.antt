pub mod Birth
pub mod Name
