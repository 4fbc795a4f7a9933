-- What only private clauses cite: a reader of the public contracts needs none of it.
pub mod Sure
