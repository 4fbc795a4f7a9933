pub mod JobMoments
pub mod Apart
pub mod InOrder
pub mod Inner
pub mod Legality
