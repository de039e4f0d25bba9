pub mod Answers
pub mod Closing
pub mod Filed
pub mod Output
pub mod Queues
pub mod Scopes
pub mod Texts
