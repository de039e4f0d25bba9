pub mod PackedIndex
pub mod Lineage
pub mod Builder
