pub mod Entries
pub mod Writing
pub mod Texts
pub mod Inner
