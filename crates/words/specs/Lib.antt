pub mod Bytes
pub mod Faults
pub mod Readers
pub mod Texts
