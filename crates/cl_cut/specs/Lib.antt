pub mod Values
pub mod Cuts
pub mod CutAnswers
pub mod Inner
