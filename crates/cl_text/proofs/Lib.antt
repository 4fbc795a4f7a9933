pub mod DecimalLemmas
pub mod LineLemmas
pub mod FoundInTexts
pub mod MoreLines
pub mod Beginnings
