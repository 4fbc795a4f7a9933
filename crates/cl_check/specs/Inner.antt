-- What only private clauses cite.
pub mod Walks
pub mod Finding
pub mod Following
pub mod PutApart
