pub mod TightAnswers
pub mod TightTimings
pub mod LongerTimes
pub mod Found
pub mod TightFindings
pub mod ExactBounds
pub mod Promises
pub mod Inner
