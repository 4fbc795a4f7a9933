-- What only private clauses cite.
pub mod Arriving
pub mod WishedTasks
