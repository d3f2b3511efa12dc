pub mod Update
pub mod KeyNumbers
pub mod Marks
pub mod Noting
pub mod Merging
