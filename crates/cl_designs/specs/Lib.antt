pub mod Cuts
pub mod Orders
pub mod Headroom
pub mod Margins
