pub mod Forms
pub mod Columns
pub mod Pages
pub mod Steps
pub mod Theorem
