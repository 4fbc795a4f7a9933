-- What only private clauses cite.
pub mod Edits
pub mod Applying
pub mod ListsMade
pub mod Traced
pub mod LegalRuns
