pub mod Hints
pub mod Parts
pub mod Post
pub mod Posting
