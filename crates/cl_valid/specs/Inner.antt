-- What only private clauses cite.
pub mod Tables
pub mod TasksByShare
pub mod ChainsByTable
pub mod Parts
