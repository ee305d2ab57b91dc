pub mod Calling
pub mod Keeping
pub mod Replays
pub mod Serving
pub mod Written
