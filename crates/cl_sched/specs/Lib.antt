pub mod Progress
pub mod CoreTables
pub mod CoreProgress
pub mod Continuing
pub mod Inner
