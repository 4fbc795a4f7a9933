pub mod Pieces
pub mod Window
pub mod Bars
pub mod Shown
pub mod Plain
pub mod Axis
pub mod Frame
pub mod Inner
