pub mod Pruned
pub mod Marked
pub mod Known
pub mod Window
