mod MarkedCores
mod NearWindows
pub mod AllCores
pub mod SeenChains
pub mod SeenTasks
