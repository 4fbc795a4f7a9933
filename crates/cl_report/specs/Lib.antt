pub mod Report
pub mod Survey
