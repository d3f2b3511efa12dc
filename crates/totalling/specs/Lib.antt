pub mod DetailTotals
pub mod Theorem
