-- What only private clauses cite.
pub mod Choices
pub mod JobLists
