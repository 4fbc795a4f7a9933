pub mod StretchFacts
pub mod OneStretchList
pub mod StretchEntries
pub mod AlikeRuns
pub mod Wholes
pub mod ShownTasks
pub mod AlikeMoments
pub mod AlikeChains
