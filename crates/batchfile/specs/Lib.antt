pub mod Refusals
pub mod Totals
pub mod TotalsParts
pub mod Stated
