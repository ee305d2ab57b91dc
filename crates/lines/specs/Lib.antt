pub mod Answers
pub mod Forms
pub mod Load
pub mod Requests
pub mod Tokens
