-- What only private clauses cite.
pub mod TaskStretches
pub mod Pieces
pub mod Bodies
