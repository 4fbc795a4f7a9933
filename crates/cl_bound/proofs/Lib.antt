pub mod SettledTasks
pub mod ReactionIsAge
pub mod SettledChains
pub mod ModelGroups
pub mod BoundSums
pub mod FrontBounds
pub mod DelayBounds
pub mod SameEnds
