pub mod Rejects
pub mod Counts
pub mod Tally
pub mod Answers
pub mod Written
pub mod Recorded
