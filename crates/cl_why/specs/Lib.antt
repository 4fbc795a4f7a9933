pub mod Windows
pub mod Shares
pub mod Hops
pub mod Walks
pub mod Reasons
pub mod Promises
pub mod Inner
