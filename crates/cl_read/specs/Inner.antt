-- What only private clauses cite.
pub mod Documents
pub mod Fields
