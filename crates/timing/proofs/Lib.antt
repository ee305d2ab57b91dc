pub mod Profiling
pub mod Tallying
