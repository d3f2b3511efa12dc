pub mod Chart04
pub mod Chart05
pub mod File
pub mod Line
pub mod Parts
