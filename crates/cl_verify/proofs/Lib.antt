pub mod KnownFacts
pub mod Made
pub mod ByFindings
pub mod Decided
pub mod VerifyLaws
pub mod DecisionLines
pub mod SomeDecisions
