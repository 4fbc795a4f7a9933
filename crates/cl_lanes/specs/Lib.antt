pub mod Gaps
pub mod Inner
