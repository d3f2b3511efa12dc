pub mod Ascii
pub mod Decimal
pub mod Line
pub mod NewFiles
pub mod Stop
