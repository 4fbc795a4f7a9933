pub mod Shapes
pub mod BadLines
pub mod OtherKinds
pub mod Unknown
pub mod RefusedEdits
pub mod Refusers
pub mod NoTitles
