pub mod Dictionary
pub mod Priorities
pub mod Orders
pub mod BestOrders
pub mod Headroom
pub mod Inner
