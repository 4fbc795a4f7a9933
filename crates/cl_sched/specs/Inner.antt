-- What only private clauses cite.
pub mod TakingTime
pub mod Executing
pub mod Filling
