pub mod Reconcile
pub mod Columns
pub mod Parts
