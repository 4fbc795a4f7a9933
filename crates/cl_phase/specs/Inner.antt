-- What only private clauses cite: a reader of the public contracts needs none of it.
pub mod Ranges
pub mod Longest
pub mod Even
pub mod Scanned
pub mod Keeping
pub mod Course
