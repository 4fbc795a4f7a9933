pub mod ChainAnswers
pub mod Verdicts
pub mod Findings
pub mod Headline
