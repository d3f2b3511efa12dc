pub mod Changes
pub mod Copies
pub mod Machine
pub mod Table
pub mod Verdict
pub mod Known
