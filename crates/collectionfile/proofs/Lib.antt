pub mod AmountLaws
pub mod FileLaws
pub mod LineLaws
pub mod TotalsLaws
