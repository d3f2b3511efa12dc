pub mod Leads
pub mod Theorem
pub mod WholeBatch
