pub mod Grown
pub mod Margins
pub mod Inner
