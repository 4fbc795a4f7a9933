pub mod Questions
pub mod Changed
pub mod SessionState
pub mod Inner
