pub mod ChartA3
pub mod Wording
pub mod Contact
