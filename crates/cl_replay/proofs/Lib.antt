pub mod MeasuredChains
pub mod OneReplay
pub mod SafeMargins
pub mod ChainLines
pub mod SomeReplay
