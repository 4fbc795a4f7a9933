pub mod Hops
pub mod Ends
pub mod Bounds
pub mod Sums
pub mod NoGreater
pub mod Timings
pub mod Promises
