-- What only private clauses cite.
pub mod Giving
pub mod Room
