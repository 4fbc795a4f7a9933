pub mod Stretches
pub mod Trace
pub mod Rules
pub mod Inner
pub mod Executions
