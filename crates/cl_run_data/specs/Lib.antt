pub mod Stretches
pub mod Inner
pub mod Parts
