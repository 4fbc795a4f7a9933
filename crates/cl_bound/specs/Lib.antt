pub mod Answers
pub mod Bounds
pub mod SettledChains
