-- What only private clauses cite.
pub mod TaskRuns
pub mod Spans
pub mod Cursors
pub mod Ends
pub mod DrawnBars
pub mod Heights
pub mod Looks
pub mod Drawings
