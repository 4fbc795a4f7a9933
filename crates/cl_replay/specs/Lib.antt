pub mod Replay
pub mod Margins
