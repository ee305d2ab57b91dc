pub mod Disciplines
pub mod Retaining
pub mod Rosters
pub mod Steps
pub mod Trials
pub mod Written
