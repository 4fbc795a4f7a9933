pub mod Windows
pub mod AccessMoments
pub mod AccessKinds
pub mod Inner
