pub mod Decisions
pub mod KnownLengths
pub mod VerifyText
pub mod Witnesses
