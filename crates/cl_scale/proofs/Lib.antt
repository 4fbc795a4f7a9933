pub mod BareModels
pub mod BareChains
pub mod ScaledValid
