pub mod Clerks
pub mod Deal
pub mod Summary
