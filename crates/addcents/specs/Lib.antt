pub mod Convert
pub mod Theorem
pub mod Zeroed
