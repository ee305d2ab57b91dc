pub mod Answers
pub mod Format
pub mod Table
