pub mod Digests
pub mod Steps
pub mod Sound
pub mod Complete
pub mod Whole
