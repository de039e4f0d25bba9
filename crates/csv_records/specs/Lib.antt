pub mod Fields
pub mod Upcoming
pub mod Interruption
