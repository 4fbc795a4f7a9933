pub mod Loads
pub mod Parts
pub mod Explanation
pub mod Accepted
pub mod Promises
pub mod Inner
