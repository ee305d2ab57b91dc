pub mod Ranges
pub mod Records
pub mod Refusals
