pub mod Blocks
pub mod ByteNumbers
pub mod ByteOrder
pub mod Characters
pub mod Fields
pub mod Options
