pub mod Before
pub mod Placing
pub mod Rotating
