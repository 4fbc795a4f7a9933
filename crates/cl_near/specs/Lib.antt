pub mod Seen
pub mod Plans
pub mod RunSizes
pub mod Inner
