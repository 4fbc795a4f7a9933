pub mod FirstNamed
pub mod MadeModels
pub mod FirstChecks
