pub mod Call
pub mod Refusals
pub mod Apply
pub mod Progress
pub mod Journaling
pub mod Parts
