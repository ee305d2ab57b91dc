pub mod Ranked
pub mod Rankings
pub mod Shifts
pub mod Standing
