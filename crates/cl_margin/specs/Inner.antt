-- What only private clauses cite: a reader of the public contracts needs none of it.
pub mod Touched
pub mod Allowing
pub mod Trials
pub mod Searches
