pub mod Decimal
pub mod Line
pub mod Standing
pub mod LinesFault
pub mod Beginnings
