pub mod JobChains
pub mod GreatestDelays
pub mod Inner
