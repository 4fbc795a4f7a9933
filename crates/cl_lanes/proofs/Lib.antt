pub mod Chunks
pub mod FirstPlaces
pub mod GapNumbers
pub mod GreatestGaps
pub mod GreatestLanes
pub mod LaneLemmas
