pub mod Serving
pub mod Turns
