pub mod AddedNames
pub mod NamesByPlace
pub mod TasksByShare
pub mod UsesByTask
pub mod ChainsByTable
pub mod FewOrMany
