pub mod Values
pub mod Shown
pub mod Rules
pub mod Observed
pub mod Within
pub mod Inner
