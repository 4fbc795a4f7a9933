-- What only private clauses cite: a reader of the public contracts needs none of it.
pub mod Kinds
pub mod Paces
pub mod Pairs
pub mod Parts
pub mod Fields
pub mod LineReads
pub mod NewTasks
pub mod Places
pub mod Words
pub mod Left
pub mod Counts
