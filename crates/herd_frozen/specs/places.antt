-- Animals by place.
pub mod Places
pub use Rattle.herd_lineage.specs.PackedIndex
pub mod Links
