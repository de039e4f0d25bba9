pub mod Addressees
pub mod Faults
pub mod Questions
pub mod Requests
pub mod Tag
