pub mod Packed
pub mod Worked
pub mod BatchOrder
pub mod KeyWork
