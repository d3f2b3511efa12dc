pub mod CodePage
pub mod Tables
pub mod Accepted
pub mod Conversion
pub mod ThereAndBack
