pub mod Year
pub mod Limits
pub mod Run
