pub mod Integers
pub mod Multiples
pub mod Phase
pub mod Stimulus
pub mod Releases
pub mod AnyStimulus
pub mod Jobs
pub mod Inner
