-- What only private clauses cite.
pub mod Cores
pub mod LongestChains
pub mod SeenJobs
