pub mod Numbers
pub mod Journal
pub mod Reading
pub mod Writing
pub mod Space
