pub mod FoundValues
pub mod Documents
pub mod Readings
pub mod Texts
