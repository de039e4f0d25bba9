pub mod Tree
pub mod Shown
pub mod Collision
