pub mod DifferingRunnables
pub mod Counts
pub mod Cycles
pub mod Promises
pub mod Inner
