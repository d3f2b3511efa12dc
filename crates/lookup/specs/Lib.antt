pub mod Find
pub mod Many
pub mod Steps
pub mod Theorem
