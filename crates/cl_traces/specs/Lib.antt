pub mod TraceLines
pub mod BadTraceLines
pub mod SaidOfRules
pub mod Titles
