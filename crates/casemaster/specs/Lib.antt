pub mod Forms
pub mod Master
pub mod Refusals
pub mod Row
pub mod Rows
pub mod Search
