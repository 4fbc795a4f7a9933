-- What only private clauses cite.
pub mod GroupTables
pub mod Hops
pub mod ChainsOver
pub mod Rows
pub mod Events
