pub mod Words
pub mod Arrivals
pub mod Drawn
pub mod DrawnByKind
pub mod Count
pub mod Generated
pub mod Inner
