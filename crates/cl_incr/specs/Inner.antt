-- What only private clauses cite: a reader of the public contracts needs none of it.
pub mod Kept
pub mod Asked
pub mod Standing
pub mod News
pub mod IsSession
