-- What only private clauses cite: a reader of the public contracts needs none of it.
pub mod Beats
pub mod Periods
pub mod Blocks
pub mod Scans
pub mod Walks
pub mod Found
pub mod Fronts
