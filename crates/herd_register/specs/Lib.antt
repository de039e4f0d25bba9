pub mod Limits
pub mod Refusal
pub mod Run
pub mod Register
pub mod Change
pub mod Copybook
