pub mod Restored
pub mod Testing
pub mod Restoring
pub mod TakeBack
pub mod Theorem
