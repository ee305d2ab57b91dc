pub mod Overruns
pub mod Profiles
pub mod Tallies
pub mod Timing
pub mod Written
