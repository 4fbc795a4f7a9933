pub mod Ahead
pub mod Leads
pub mod LeastTimes
pub mod Inner
