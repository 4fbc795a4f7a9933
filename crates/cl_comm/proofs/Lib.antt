pub use Rattle.cl_comm.specs.Inner.AccessTimes
pub mod Spots
pub mod Responses
