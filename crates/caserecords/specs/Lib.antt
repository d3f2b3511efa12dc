pub mod Differences
pub mod Records
pub mod RecordsTo
