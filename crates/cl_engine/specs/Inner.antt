-- What only private clauses cite.
pub mod Opened
pub mod Leaving
pub mod Within
