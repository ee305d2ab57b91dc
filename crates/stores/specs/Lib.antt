pub mod Lending
pub mod Places
pub mod Tables
