pub mod Order
pub mod Tagged
pub mod Runs
